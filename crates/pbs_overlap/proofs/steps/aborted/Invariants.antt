use Rattle.std.proofs.Common.{◌≡◌, ℕ, ◌<◌, true, Some}
use Rattle.std.specs.Prelude.{slice_get}
use Rattle.pbs_overlap.specs.declared.ranges.ScopeRange.{ScopeRange}
use Rattle.pbs_overlap.specs.inner.Steps.{aborts_range}
use Rattle.pbs_overlap.proofs.steps.aborted.Given as goal

abbrev pub invariant-loop-s : goal.invariant-loop-s
invariant-loop-s l = (j : ℕ) (t : ScopeRange) → j < l.s → slice_get l.ranges j ≡ Some t
    → aborts_range l.leaf l.node t ≡ true → ⊥
