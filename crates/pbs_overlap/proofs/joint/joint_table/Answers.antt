use Rattle.pbs_overlap.proofs.Joints.{told_more}
use Rattle.pbs_overlap.proofs.joint.joint_table.Goals as goal

pub loop-cell-preserved : goal.loop-cell-preserved
loop-cell-preserved c = told_more c.args.store.now c.args.nodes.now c.loop-cell.cell c.loop-cell.table.items
    c.push.new.self.items c.in_ok-apart.apart c.loop-cell.invariant.0 c.loop-cell.invariant.1
    c.in_ok-push.ensures.items c.in_ok-apart.ensures
