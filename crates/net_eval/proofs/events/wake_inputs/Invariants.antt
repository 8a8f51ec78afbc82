use Rattle.net_eval.specs.inner.Marks.{Wakes, of_inputs}
use Rattle.net_eval.proofs.events.wake_inputs.Given as goal

abbrev pub invariant-loop-n : goal.invariant-loop-n
invariant-loop-n l = Wakes l.net.gates l.fn.words l.words (of_inputs l.before l.now l.n)
