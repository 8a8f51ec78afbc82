-- Plans of codes by numbers of groups and of members.
use Rattle.std.specs.Prelude.{◌≡◌, ℕ, ◌<◌, ◌≤◌, ◌⊎◌, List, length, slice_get, Some, Contains}
use Rattle.net_core.specs.declared.codes.CodePlan.{CodePlan}
use Rattle.net_core.specs.Plans.{leader_of}

-- the place stands in a group
pub record IsIn (groups : List (List ℕ)) (p : ℕ) : Type 0 where
  pub group : List ℕ
  pub number : ℕ
  pub at : slice_get groups number ≡ Some group
  pub position : ℕ
  pub there : slice_get group position ≡ Some p

-- no item stands twice in the list
pub record AreDistinct (items : List ℕ) : Type 0 where
  pub distinct : (i j p : ℕ) → slice_get items i ≡ Some p → slice_get items j ≡ Some p → i ≡ j

-- no place stands twice in the groups
pub record AreOnce (groups : List (List ℕ)) : Type 0 where
  pub once : (m n i j : ℕ) (g h : List ℕ) (p : ℕ) → slice_get groups m ≡ Some g → slice_get groups n ≡ Some h
      → slice_get g i ≡ Some p → slice_get h j ≡ Some p → (m ≡ n) × (i ≡ j)

-- a plan for so many places
pub record IsPlan (places : ℕ) (plan : CodePlan) : Type 0 where
  pub count : length plan.leaders ≡ places
  pub each : (p : ℕ) → p < places → Contains plan.never p ⊎ IsIn plan.groups (leader_of plan p)
  pub never : (p : ℕ) → Contains plan.never p → (leader_of plan p ≡ p) × (IsIn plan.groups p → ⊥)
  pub leaders : (p : ℕ) → IsIn plan.groups p → (p < places) × (leader_of plan p ≡ p)
  pub once : AreOnce plan.groups
  pub sizes : (n : ℕ) (g : List ℕ) → slice_get plan.groups n ≡ Some g → (1 ≤ length g) × (length g ≤ 7)
