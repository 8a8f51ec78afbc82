use Rattle.vlog_order.proofs.Marking.{Marked}
use Rattle.vlog_order.proofs.taken.mark_taken.Given as goal

abbrev pub invariant-loop-gate : goal.invariant-loop-gate
invariant-loop-gate l = Marked l.count l.order l.gate-index l.taken.items
