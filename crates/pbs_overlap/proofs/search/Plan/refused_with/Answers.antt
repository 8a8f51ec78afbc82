use Rattle.pbs_overlap.proofs.Least.{lowest_more, lowest_one}
use Rattle.pbs_overlap.specs.inner.Lowest.{Refuses}
use Rattle.pbs_overlap.proofs.search.Plan.refused_with.Goals as goal

pub loop-i-preserved : goal.loop-i-preserved
loop-i-preserved c = rw c.lower-lowest.ensures
    (lowest_more (Refuses c.args.self.now c.args.reached.now c.args.j) c.loop-i.i
    c.loop-i.lowest c.refused_by.result c.loop-i.invariant (rw c.refused_by.ensures (lowest_one _)))
