use Rattle.pbs_overlap.specs.inner.Search.{Between, IsStart, Visits}
use Rattle.pbs_overlap.proofs.search.Plan.begin.Given as goal

abbrev pub invariant-loop-k : goal.invariant-loop-k
invariant-loop-k l = Visits (Between 0 l.k (IsStart (l.self).places l.starts)) l.initial.reached l.reached
