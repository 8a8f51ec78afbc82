use Rattle.std.proofs.Common.{arith, subst}
use Rattle.net_eval.specs.inner.Marks.{Wakes, of_inputs}
use Rattle.net_eval.proofs.Waking.{inputs_none, inputs_rest, inputs_step, xor_bit}
use Rattle.net_eval.proofs.events.wake_inputs.Goals as goal

pub loop-n-init : goal.loop-n-init
loop-n-init c = inputs_none c.args.net.now.gates c.args.words.now c.args.before c.args.now

pub returns-then-rest-eq0 : goal.returns-then-rest-eq0
returns-then-rest-eq0 c =
    inputs_rest c.args.net.now.gates c.args.words.now c.loop-n.words c.args.before c.args.now c.loop-n.n (omega arith)
    c.if-rest-eq0.true c.loop-n.invariant

pub loop-n-preserved : goal.loop-n-preserved
loop-n-preserved c =
    inputs_step c.args.net.now.gates c.args.words.now c.loop-n.words c.wake_if.new.words c.args.before c.args.now
    c.loop-n.n _ (xor_bit c.args.before c.args.now c.loop-n.n) c.loop-n.invariant c.wake_if.ensures

pub returns : goal.returns
returns c =
    subst (λ n. Wakes c.args.net.now.gates c.args.words.now c.loop-n.words (of_inputs c.args.before c.args.now n))
    (omega arith) c.loop-n.invariant
