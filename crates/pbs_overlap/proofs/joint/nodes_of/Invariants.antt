use Rattle.std.proofs.Common.{◌≡◌, length}
use Rattle.pbs_overlap.specs.inner.Joints.{StandFor}
use Rattle.pbs_overlap.proofs.joint.nodes_of.Given as goal

abbrev pub invariant-loop-term : goal.invariant-loop-term
invariant-loop-term l = (length l.nodes.items ≡ l.term-index) × StandFor l.store l.terms l.nodes.items l.term-index
