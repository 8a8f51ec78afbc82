use Rattle.std.proofs.Common.{ap, ◌∙◌, ◌++◌}
use Rattle.std.proofs.lemmas.Result.{IfOk-weaker}
use Rattle.pbs_controller.proofs.ports.joined_word.Goals as goal

pub returns : goal.returns
returns c =
    IfOk-weaker c.new.result _ _
    (λ word is. is ∙ (c.as_slice.ensures.value ∙ (c.in_ok-extend_from_slice.ensures.items
    ∙ ap (λ bytes. bytes ++ c.args.back.now) c.in_ok-bytes.ensures.items)))
    c.new.ensures
