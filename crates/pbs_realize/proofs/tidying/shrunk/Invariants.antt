use Rattle.pbs_realize.specs.inner.Shrinking.{Shrinks}
use Rattle.pbs_realize.proofs.tidying.shrunk.Given as goal

abbrev pub invariant-loop : goal.invariant-loop
invariant-loop l = Shrinks l.net l.least
