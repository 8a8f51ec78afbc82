-- The literals by which a place is told from the others of its group.
use Rattle.std.specs.Prelude.{◌≡◌, ℕ, zero, suc, ◌+◌, ◌<◌, ◌^◌, Bool, ◌||◌, cond, nat_le}
use Rattle.std.specs.Prelude.{List, [], ◌∷◌, ◌++◌, length, Option, Some, None, slice_get}
use Rattle.pbs_base.specs.Entries.{bit}
use Rattle.net_core.specs.declared.codes.Literal.{Literal}
use Rattle.net_core.specs.declared.codes.Code.{Code}
use Rattle.net_core.specs.declared.codes.Code.TheVariants.{Never, Bits}
use Rattle.net_core.specs.declared.codes.CodePlan.{CodePlan}
use Rattle.net_core.specs.Plans.{leader_of}
use Rattle.net_encode.specs.declared.seats.Seat.{Seat}
use Rattle.net_encode.specs.inner.Seats.{IsSeatOf}

-- of the codes up to the last there is one that differs in bit t alone: the bit is 1, or the code that has it too is
-- one of them
abbrev pub is_needed : ℕ → ℕ → ℕ → Bool
is_needed last code t = bit t code || nat_le (code + 2 ^ t) last

abbrev pub needed_literal : ℕ → ℕ → ℕ → ℕ → List Literal
needed_literal first last code t =
    cond (is_needed last code t) ((record { reg = first + t; value = bit t code }) ∷ []) []

-- the needed literals on so many registers from the first on
abbrev pub telling_literals : ℕ → ℕ → ℕ → ℕ → List Literal
telling_literals first last code zero = []
telling_literals first last code (suc t) =
    telling_literals first last code t ++ needed_literal first last code t

abbrev pub telling_at : Option Seat → Code
telling_at None = Never
telling_at (Some seat) = Bits (telling_literals seat.first seat.last seat.code seat.count)

-- the code has the needed literals of the seat of this place
pub record IsTelling (groups : List (List ℕ)) (p : ℕ) (code : Code) : Type 0 where
  pub seat : Option Seat
  pub of : IsSeatOf groups p seat
  pub is : code ≡ telling_at seat

-- for each of the first places the code of its leader
pub record AreTelling (plan : CodePlan) (count : ℕ) (codes : List Code) : Type 0 where
  pub long : length codes ≡ count
  pub each : (p : ℕ) (code : Code) → slice_get codes p ≡ Some code → IsTelling plan.groups (leader_of plan p) code
