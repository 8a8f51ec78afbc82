use Rattle.std.proofs.Common.{◌∙◌, ◌++◌, ap}
use Rattle.soak_run.specs.Soaks.{spec_text}
use Rattle.pbs_engine.proofs.soaking.soak.Goals as goal

pub soak_text-requires-clause-text : goal.soak_text-requires-clause-text
soak_text-requires-clause-text c =
    c.as_slice.ensures.value
    ∙ (c.in-Ok.ensures ∙ ap (λ before. before ++ spec_text c.args.n) c.new-text.ensures.items)
