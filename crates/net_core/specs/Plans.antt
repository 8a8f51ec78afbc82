-- Plans by which places share registers.
use Rattle.std.specs.Prelude.{◌≡◌, ℕ, ◌<◌, ◌≤◌, ◌⊎◌, List, length, slice_get, slice_index, Some, Contains}
use Rattle.net_core.specs.declared.codes.CodePlan.{CodePlan}

-- the leader that the plan gives a place
abbrev pub leader_of : CodePlan → ℕ → ℕ
leader_of plan p = slice_index plan.leaders p

-- the place stands in a group of the plan
abbrev pub IsGrouped : CodePlan → ℕ → Type 0
IsGrouped plan p = (group : List ℕ) × Contains plan.groups group × Contains group p

-- each place is a never place or its leader stands in a group; a never place has itself as leader and stands in no
-- group; a member of a group is a place that has itself as leader, stands in that group alone, and there once; and each
-- group has one to seven members
pub record IsWhole (plan : CodePlan) : Type 0 where
  pub each : (p : ℕ) → p < length plan.leaders → Contains plan.never p ⊎ IsGrouped plan (leader_of plan p)
  pub never : (p : ℕ) → Contains plan.never p
      → (p < length plan.leaders) × (leader_of plan p ≡ p) × (IsGrouped plan p → ⊥)
  pub members : (p : ℕ) → IsGrouped plan p → (p < length plan.leaders) × (leader_of plan p ≡ p)
  pub once : (i j a b p : ℕ) (group other : List ℕ) → slice_get plan.groups i ≡ Some group
      → slice_get group a ≡ Some p → slice_get plan.groups j ≡ Some other → slice_get other b ≡ Some p
      → (i ≡ j) × (a ≡ b)
  pub sizes : (group : List ℕ) → Contains plan.groups group → (1 ≤ length group) × (length group ≤ 7)
