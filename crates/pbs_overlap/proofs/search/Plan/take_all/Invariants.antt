use Rattle.pbs_overlap.specs.inner.Search.{Between, TakenWith, Visits, first_at}
use Rattle.pbs_overlap.proofs.search.Plan.take_all.Given as goal

abbrev pub invariant-loop-i : goal.invariant-loop-i
invariant-loop-i l = Visits (Between (first_at l.self l.p) l.i (TakenWith l.self l.q)) l.initial.reached l.reached
