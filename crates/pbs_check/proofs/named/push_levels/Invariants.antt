use Rattle.std.proofs.Common.{◌≡◌, ◌++◌, drop}
use Rattle.pbs_check.specs.Declaring.{declared_levels}
use Rattle.pbs_check.proofs.named.push_levels.Given as goal

abbrev pub invariant-loop-level : goal.invariant-loop-level
invariant-loop-level l = l.out.items ++ declared_levels (drop l.level-index l.level-items) ≡ l.initial.out.items ++
    declared_levels l.levels
