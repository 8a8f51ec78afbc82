use Rattle.vlog_order.specs.inner.Queues.{marked, SettledBetween}
use Rattle.vlog_order.proofs.order.first_unsettled.Given as goal

abbrev pub invariant-loop-i : goal.invariant-loop-i
invariant-loop-i l = SettledBetween (marked l.taken) l.pins l.start l.i
