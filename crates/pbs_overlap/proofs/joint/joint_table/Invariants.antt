use Rattle.std.proofs.Common.{◌≡◌, length}
use Rattle.pbs_overlap.specs.inner.Joints.{AreTold}
use Rattle.pbs_overlap.proofs.joint.joint_table.Given as goal

abbrev pub invariant-loop-cell : goal.invariant-loop-cell
invariant-loop-cell l = (length l.table.items ≡ l.cell) × AreTold l.store l.nodes l.cell l.table.items
