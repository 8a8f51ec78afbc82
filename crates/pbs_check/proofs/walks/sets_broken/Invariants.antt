use Rattle.std.proofs.Common.{◌≡◌, drop}
use Rattle.pbs_check.specs.Least.{least_of, least_by}
use Rattle.pbs_check.specs.inner.Walking.{set_broken}
use Rattle.pbs_check.proofs.walks.sets_broken.Given as goal

abbrev pub invariant-loop-set : goal.invariant-loop-set
invariant-loop-set l =
    least_of l.found (least_by (set_broken l.look l.tables) (drop l.set-index l.set-items)) ≡ least_by
    (set_broken l.look l.tables) l.set-items
