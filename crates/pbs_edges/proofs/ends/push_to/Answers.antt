use Rattle.std.proofs.Common.{refl}
use Rattle.pbs_edges.proofs.Pushing.{push_one}
use Rattle.pbs_edges.proofs.ends.push_to.Goals as goal

pub loop-to-preserved : goal.loop-to-preserved
loop-to-preserved c = push_one c.args.node c.args.from c.args.tos.now c.loop-to.to-index c.args.out.now.items
    c.loop-to.out.items c.push.new.self.items _ c.loop-to-test.true refl c.in_ok-push.ensures.items c.loop-to.invariant
