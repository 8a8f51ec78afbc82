use Rattle.pbs_codes.specs.inner.Leading.{IsLed}
use Rattle.pbs_codes.proofs.leading.find_leaders.Given as goal

abbrev pub invariant-loop-place : goal.invariant-loop-place
invariant-loop-place l = IsLed l.pairs l.signatures l.place l.leading
