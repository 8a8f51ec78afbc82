use Rattle.pbs_overlap.specs.inner.Search.{Between}
use Rattle.pbs_overlap.specs.inner.Lowest.{IsLowest, Refuses}
use Rattle.pbs_overlap.proofs.search.Plan.refused_with.Given as goal

abbrev pub invariant-loop-i : goal.invariant-loop-i
invariant-loop-i l = IsLowest (Between 0 l.i (Refuses l.self l.reached l.j)) l.lowest
