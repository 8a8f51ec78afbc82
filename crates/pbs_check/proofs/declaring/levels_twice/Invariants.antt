use Rattle.std.proofs.Common.{◌≡◌, drop}
use Rattle.pbs_check.specs.Least.{least_of, least_by}
use Rattle.pbs_check.specs.inner.Stages.{level_twice}
use Rattle.pbs_check.proofs.declaring.levels_twice.Given as goal

abbrev pub invariant-loop-level : goal.invariant-loop-level
invariant-loop-level l = least_of l.found (least_by level_twice (drop l.level-index l.level-items)) ≡ least_by
    level_twice l.level-items
