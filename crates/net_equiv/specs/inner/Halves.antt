-- What comparing two wires gives, over what registers count as by lists.
use Rattle.std.specs.Prelude.{◌≡◌, ◌⊎◌, ℕ, ◌<◌, ◌≤◌, Bool, List, length, Option, Some, None}
use Rattle.net_core.specs.Circuits.{IsThere}
use Rattle.net_eval.specs.Assignments.{IsOrdered}
use Rattle.net_equiv.specs.declared.answer.VarName.{VarName}
use Rattle.net_equiv.specs.declared.answer.Comparison.{Comparison}
use Rattle.net_equiv.specs.declared.answer.Difference.{Difference}
use Rattle.net_equiv.specs.declared.halves.Half.{Half}
use Rattle.net_equiv.specs.Cones.{AreAll, AreSome, InCone, IsLeafOf}
use Rattle.net_equiv.specs.inner.Walking.{name_at}
use Rattle.net_equiv.specs.inner.Standing.{View, LeastApart, NeverApart}
use Rattle.net_equiv.specs.Told.{AreValues}
use Rattle.net_equiv.specs.declared.cone.Cone.{Cone}
use Rattle.net_equiv.specs.declared.halves.Cones.{Cones}
use Rattle.net_equiv.specs.inner.Filling.{IsClear, IsFilled}

-- the gates are in order, and the wire is there
pub record IsHalf (half : Half) : Type 0 where
  pub ordered : IsOrdered 64 (length half.names.now) half.gates.now
  pub root : IsThere 64 (length half.names.now) (length half.gates.now) half.root

-- the variable lies in the cone
abbrev pub LiesInHalf : Half → VarName → Type 0
LiesInHalf half x = IsLeafOf (name_at half.names.now) (InCone half.gates.now half.root) x

abbrev pub LiesInEither : Half → Half → VarName → Type 0
LiesInEither a b x = LiesInHalf a x ⊎ LiesInHalf b x

abbrev pub half_view : Half → List VarName → Bool → View
half_view half vars reset = record { gates = half.gates.now; names = half.names.now; vars = vars; reset = reset }

-- the difference for the least vector
pub record IsDifferenceAt (a b : Half) (c : Comparison) (vars : List VarName) (d : Difference) : Type 0 where
  pub reset : d.reset ≡ c.reset
  pub register : d.register ≡ c.register
  pub number : d.number ≡ c.number
  pub vector : ℕ
  pub least : LeastApart (half_view a vars c.reset) (half_view b vars c.reset) a.root b.root vector
  pub values : AreValues vars vector d.values

abbrev pub IsToldBy : Half → Half → Comparison → List VarName → Option Difference → Type 0
IsToldBy a b c vars None = NeverApart (half_view a vars c.reset) (half_view b vars c.reset) a.root b.root
IsToldBy a b c vars (Some d) = IsDifferenceAt a b c vars d

-- at most 16 variables, and what they tell
pub record IsHalfOutcome (a b : Half) (c : Comparison) (told : Option Difference) : Type 0 where
  pub vars : List VarName
  pub variables : AreAll (LiesInEither a b) vars
  pub few : length vars ≤ 16
  pub is_told : IsToldBy a b c vars told

pub record IsHalfWide (a b : Half) : Type 0 where
  pub vars : List VarName
  pub variables : AreSome (LiesInEither a b) vars
  pub many : 16 < length vars

-- the half's cone is filled
abbrev pub IsFilledFor : Half → List VarName → Cone → Type 0
IsFilledFor half vars cone = IsFilled half.gates.now (name_at half.names.now) half.root vars cone

-- there is room for both cones, and no gate is marked
pub record AreClear (a b : Half) (cones : Cones) : Type 0 where
  pub a_clear : IsClear (length a.gates.now) cones.a
  pub b_clear : IsClear (length b.gates.now) cones.b
