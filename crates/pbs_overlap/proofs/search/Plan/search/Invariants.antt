use Rattle.std.proofs.Common.{◌*◌, ◌-◌}
use Rattle.pbs_overlap.specs.inner.Search.{Searching}
use Rattle.pbs_overlap.proofs.search.Plan.search.Given as goal

abbrev pub invariant-loop-next : goal.invariant-loop-next
invariant-loop-next l = Searching l.self l.starts l.next l.reached

abbrev pub decreases-loop-next : goal.decreases-loop-next
decreases-loop-next l = (l.self).places * (l.self).places - l.next
