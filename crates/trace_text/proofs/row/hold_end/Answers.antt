use Rattle.std.proofs.Common.{◌∙◌}
use Rattle.trace_text.proofs.HeldLemmas.{end_cut, end_held}
use Rattle.trace_text.proofs.row.hold_end.Goals as goal

pub returns-in_default : goal.returns-in_default
returns-in_default g c = end_cut _ _ _ _ _ _ _ _ (c.as_bytes.ensures.value ∙ c.format.ensures.text) c.in_default.ensures

pub returns : goal.returns
returns g c = end_held _ _ _ _ _ _ _ _ _ _ (c.as_bytes.ensures.value
    ∙ c.format.ensures.text) c.in-Ok.ensures c.write.ensures
