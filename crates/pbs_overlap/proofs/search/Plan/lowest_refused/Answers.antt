use Rattle.pbs_overlap.proofs.Least.{lowest_more}
use Rattle.pbs_overlap.specs.inner.Lowest.{RefusesWith}
use Rattle.pbs_overlap.proofs.search.Plan.lowest_refused.Goals as goal

pub loop-j-preserved : goal.loop-j-preserved
loop-j-preserved c = rw c.lower-lowest.ensures (lowest_more (RefusesWith c.args.self.now c.args.reached.now) c.loop-j.j
    c.loop-j.lowest c.refused_with.result c.loop-j.invariant c.refused_with.ensures)
