use Rattle.std.proofs.Common.{◌≡◌, drop}
use Rattle.pbs_check.specs.Least.{least_of, least_by}
use Rattle.pbs_check.specs.inner.Walking.{level_broken}
use Rattle.pbs_check.proofs.walks.levels_broken.Given as goal

abbrev pub invariant-loop-level : goal.invariant-loop-level
invariant-loop-level l =
    least_of l.found (least_by (level_broken l.look l.tables) (drop l.level-index l.level-items)) ≡ least_by
    (level_broken l.look l.tables) l.level-items
