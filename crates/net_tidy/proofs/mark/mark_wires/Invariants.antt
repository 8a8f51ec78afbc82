use Rattle.net_tidy.specs.inner.Marks.{Marks}
use Rattle.net_tidy.proofs.mark.mark_wires.Given as goal

abbrev pub invariant-loop-wire : goal.invariant-loop-wire
invariant-loop-wire l = Marks l.fn.marks l.marks l.wires l.wire-index
