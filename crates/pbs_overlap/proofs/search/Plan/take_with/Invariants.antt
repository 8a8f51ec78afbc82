use Rattle.pbs_overlap.specs.inner.Search.{Between, Taken, Visits, first_at}
use Rattle.pbs_overlap.proofs.search.Plan.take_with.Given as goal

abbrev pub invariant-loop-j : goal.invariant-loop-j
invariant-loop-j l = Visits (Between (first_at l.self l.q) l.j (Taken l.self l.i)) l.initial.reached l.reached
