use Rattle.std.proofs.Common.{arith}
use Rattle.std.specs.Prelude.{nat_le}
use Rattle.vlog_order.specs.inner.Queues.{marked}
use Rattle.vlog_order.proofs.Waking.{starting_more, new_waiter}
use Rattle.vlog_order.proofs.order.settle_each.Goals as goal

pub settle-requires-clause-waiter : goal.settle-requires-clause-waiter
settle-requires-clause-waiter c =
    new_waiter c.args.gates.now c.args.taken.now c.loop-gate.gate (omega arith) c.requires.marks

pub loop-gate-preserved : goal.loop-gate-preserved
loop-gate-preserved c =
    starting_more c.args.gates.now (marked c.args.taken.now) c.settle.new.ready c.settle.new.waiting c.loop-gate.gate
    (c.in_ok-settle.ensures (nat_le c.loop-gate.gate) c.loop-gate.invariant)
