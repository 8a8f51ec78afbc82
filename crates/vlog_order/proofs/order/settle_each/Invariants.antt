use Rattle.std.specs.Prelude.{nat_le}
use Rattle.vlog_order.specs.inner.Queues.{marked, IsQueue}
use Rattle.vlog_order.proofs.order.settle_each.Given as goal

abbrev pub invariant-loop-gate : goal.invariant-loop-gate
invariant-loop-gate l = IsQueue l.gates (marked l.taken) l.ready l.waiting (nat_le l.gate)
