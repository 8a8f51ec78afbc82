use Rattle.pbs_edges.proofs.Pushing.{push_row}
use Rattle.pbs_edges.proofs.ends.push_between.Goals as goal

pub loop-from-preserved : goal.loop-from-preserved
loop-from-preserved c = push_row c.args.node c.args.froms.now c.args.tos.now c.loop-from.from-index c.args.out.now.items
    c.loop-from.out.items c.push_to.new.out.items c.loop-from-test.true c.in_ok-push_to.ensures c.loop-from.invariant
