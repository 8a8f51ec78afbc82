use Rattle.std.proofs.Common.{ℕ, ◌<◌}
use Rattle.pbs_check.specs.inner.Circles.{AreCircles, HasRoot}
use Rattle.pbs_check.proofs.circles.Circles.find_all.Given as goal

abbrev pub invariant-loop-root : goal.invariant-loop-root
invariant-loop-root l = AreCircles l.graph.uses.items l.circles

abbrev pub invariant-loop-root-2 : goal.invariant-loop-root-2
invariant-loop-root-2 l = record {
  circles : AreCircles l.graph.uses.items l.circles;
  all : (k : ℕ) → k < l.root → HasRoot l.circles.roots.items k;
}
