use Rattle.std.proofs.Common.{arith}
use Rattle.pbs_overlap.proofs.Work.{visits_more, visits_as}
use Rattle.pbs_overlap.proofs.search.Plan.begin.Goals as goal

pub loop-k-preserved : goal.loop-k-preserved
loop-k-preserved c = visits_more c.loop-k.k (omega arith) c.loop-k.invariant
    (visits_as c.in_ok-visit.ensures (λ j e. record { reached = e }) (λ j h. h.reached))
