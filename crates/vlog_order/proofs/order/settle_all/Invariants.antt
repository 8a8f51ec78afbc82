use Rattle.std.proofs.Common.{drop}
use Rattle.vlog_order.specs.inner.Queues.{marked, IsQueue, wakes}
use Rattle.vlog_order.proofs.order.settle_all.Given as goal

abbrev pub invariant-loop-waiter : goal.invariant-loop-waiter
invariant-loop-waiter l = IsQueue l.gates (marked l.taken) l.ready l.waiting (wakes (drop l.waiter-index l.woken))
