use Rattle.std.proofs.Common.{arith, drop}
use Rattle.vlog_order.specs.inner.Queues.{marked, wakes}
use Rattle.vlog_order.proofs.Waking.{waking_more}
use Rattle.vlog_order.proofs.order.settle_all.Goals as goal

pub loop-waiter-preserved : goal.loop-waiter-preserved
loop-waiter-preserved c =
    waking_more c.args.gates.now (marked c.args.taken.now) c.settle.new.ready c.settle.new.waiting c.args.woken.now
    c.loop-waiter.waiter-index (record { gate = 0; pin = 0 }) (omega arith)
    (c.in_ok-settle.ensures (wakes (drop c.loop-waiter.waiter-index c.args.woken.now)) c.loop-waiter.invariant)
