use Rattle.std.proofs.Common.{Ok, Some, sym, ap, ◌∙◌}
use Rattle.pbs_base.proofs.WordLemmas.{one_name_more}
use Rattle.pbs_base.proofs.names.Names.copy.Goals as goal

pub loop-n-preserved : goal.loop-n-preserved
loop-n-preserved c =
    one_name_more c.args.self.now c.loop-n.copy c.add.new.self c.loop-n.n c.in_ok-new.field-0 c.in_ok-add.field-0
    c.len-n-end.ensures.different
    (sym c.in-Some.ensures.value ∙ ap Some (sym (c.in_ok-new.ensures ∙ c.bytes.ensures)))
    c.loop-n.invariant (λ e. c.in_ok-add.ensures.there (ap Ok e)) (λ e. c.in_ok-add.ensures.added (ap Ok e))
