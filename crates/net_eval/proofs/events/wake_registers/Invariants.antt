use Rattle.net_eval.specs.inner.Marks.{Wakes, of_registers}
use Rattle.net_eval.proofs.events.wake_registers.Given as goal

abbrev pub invariant-loop-n : goal.invariant-loop-n
invariant-loop-n l = Wakes l.net.gates l.fn.words l.words (of_registers l.before l.now l.n)
