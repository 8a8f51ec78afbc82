use Rattle.pbs_check.specs.Least.{IsLeast}
use Rattle.pbs_check.specs.inner.Links.{HasRecursionTo}
use Rattle.pbs_check.proofs.recursion.least_recursion.Given as goal

abbrev pub invariant-loop-number : goal.invariant-loop-number
invariant-loop-number l = IsLeast (HasRecursionTo l.uses l.number) l.found
