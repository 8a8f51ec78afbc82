use Rattle.vlog_order.proofs.Ordering.{Ordered}
use Rattle.vlog_order.proofs.order.order_gates.Given as goal

abbrev pub invariant-loop : goal.invariant-loop
invariant-loop l = Ordered l.gates l.taken.items l.ready l.waiting l.order.items l.counter
