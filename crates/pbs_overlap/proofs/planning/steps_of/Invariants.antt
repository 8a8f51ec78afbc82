use Rattle.pbs_overlap.specs.inner.Planning.{AreStepsOf}
use Rattle.pbs_overlap.proofs.planning.steps_of.Given as goal

abbrev pub invariant-loop-edge : goal.invariant-loop-edge
invariant-loop-edge l = AreStepsOf l.leaves l.ranges l.edges l.edge-index l.steps.items
