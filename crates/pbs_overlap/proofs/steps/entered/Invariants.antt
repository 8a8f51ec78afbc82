use Rattle.std.proofs.Common.{◌≡◌, ℕ, ◌<◌, true, Some}
use Rattle.std.specs.Prelude.{slice_get}
use Rattle.pbs_overlap.specs.declared.ranges.ScopeRange.{ScopeRange}
use Rattle.pbs_overlap.specs.inner.Steps.{enters_range}
use Rattle.pbs_overlap.proofs.steps.entered.Given as goal

abbrev pub invariant-loop-s : goal.invariant-loop-s
invariant-loop-s l = (j : ℕ) (t : ScopeRange) → j < l.s → slice_get l.ranges j ≡ Some t
    → enters_range l.leaf l.node t ≡ true → ⊥
