use Rattle.pbs_overlap.specs.inner.Search.{Between}
use Rattle.pbs_overlap.specs.inner.Lowest.{IsLowest, RefusesWith}
use Rattle.pbs_overlap.proofs.search.Plan.lowest_refused.Given as goal

abbrev pub invariant-loop-j : goal.invariant-loop-j
invariant-loop-j l = IsLowest (Between 0 l.j (RefusesWith l.self l.reached)) l.lowest
