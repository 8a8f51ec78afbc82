-- The seats of places in the groups of a plan.
use Rattle.std.specs.Prelude.{◌≡◌, ℕ, ◌+◌, ◌<◌, ◌≤◌, ◌⊎◌, ◌^◌, List, length, take, Option, Some, None, slice_get}
use Rattle.net_core.specs.declared.codes.Code.{Code}
use Rattle.net_core.specs.declared.codes.Code.TheVariants.{Never, Bits}
use Rattle.net_encode.specs.declared.seats.Seat.{Seat}
use Rattle.net_encode.specs.Codes.{code_registers, literals_from, low_bits, width}
use Rattle.net_encode.specs.inner.Plans.{IsIn}

-- the code of a place with this seat; one with none never stands
abbrev pub code_at : Option Seat → Code
code_at None = Never
code_at (Some seat) = Bits (literals_from seat.first (low_bits seat.count seat.code))

-- there are at most three registers, below the bound of their numbers
abbrev pub HasRoom : Option Seat → Type 0
HasRoom None = Unit {0}
HasRoom (Some seat) = (seat.count ≤ 3) × (seat.first + seat.count < 2 ^ 32)

-- the code has few bits
abbrev pub HasSmallCode : Option Seat → Type 0
HasSmallCode None = Unit {0}
HasSmallCode (Some seat) = seat.code < 256

-- the place is a member of a group: it has the group's registers, its code there, and the last code of the group
pub record IsSeat (groups : List (List ℕ)) (p : ℕ) (seat : Seat) : Type 0 where
  pub number : ℕ
  pub group : List ℕ
  pub at : slice_get groups number ≡ Some group
  pub position : ℕ
  pub there : slice_get group position ≡ Some p
  pub first : seat.first ≡ code_registers (take number groups)
  pub count : seat.count ≡ width (length group)
  pub code : seat.code ≡ 1 + position
  pub last : seat.last ≡ length group

-- a place without a seat is in no group
abbrev pub IsSeatOf : List (List ℕ) → ℕ → Option Seat → Type 0
IsSeatOf groups p None = IsIn groups p → ⊥
IsSeatOf groups p (Some seat) = IsSeat groups p seat

-- the seat of each place
pub record AreSeats (groups : List (List ℕ)) (seats : List (Option Seat)) : Type 0 where
  pub each : (p : ℕ) (seat : Option Seat) → slice_get seats p ≡ Some seat → IsSeatOf groups p seat

-- member j of group m comes before member i of group n
abbrev pub IsBefore : ℕ → ℕ → ℕ → ℕ → Type 0
IsBefore m j n i = (m < n) ⊎ ((m ≡ n) × (j < i))

-- the seats of the members of the first n groups, and of the first i members of group n
pub record AreSeatsTo (groups : List (List ℕ)) (n i : ℕ) (seats : List (Option Seat)) : Type 0 where
  pub found : (p : ℕ) (seat : Seat) → slice_get seats p ≡ Some (Some seat) → IsSeat groups p seat
  pub none : (p m j : ℕ) (g : List ℕ) → slice_get seats p ≡ Some None → slice_get groups m ≡ Some g
      → slice_get g j ≡ Some p → IsBefore m j n i → ⊥
