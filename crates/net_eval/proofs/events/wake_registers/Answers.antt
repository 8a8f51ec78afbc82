use Rattle.std.proofs.Common.{arith, subst}
use Rattle.net_eval.specs.inner.Marks.{Wakes, of_registers}
use Rattle.net_eval.proofs.Waking.{registers_none, registers_step, unequal}
use Rattle.net_eval.proofs.events.wake_registers.Goals as goal

pub loop-n-init : goal.loop-n-init
loop-n-init c = registers_none c.args.net.now.gates c.args.words.now c.args.before.now c.args.now.now

pub loop-n-preserved : goal.loop-n-preserved
loop-n-preserved c =
    registers_step c.args.net.now.gates c.args.words.now c.loop-n.words c.wake_if.new.words c.args.before.now
    c.args.now.now c.loop-n.n _ (unequal _ _) c.loop-n.invariant c.wake_if.ensures

pub returns : goal.returns
returns c =
    subst (λ n.
    Wakes c.args.net.now.gates c.args.words.now c.loop-n.words (of_registers c.args.before.now c.args.now.now n))
    (omega arith) c.loop-n.invariant
