-- Which gates are reached, from wires over pins.
use Rattle.std.specs.Prelude.{◌≡◌, ℕ, ◌<◌, ◌≤◌, ◌+◌, ◌⊎◌, Bool, true, false, List, [], ◌∷◌, ◌++◌, length, map}
use Rattle.std.specs.Prelude.{slice_get, slice_index_or, Some}
use Rattle.net_core.specs.declared.gate.Wire.{Wire}
use Rattle.net_core.specs.declared.gate.Wire.TheVariants.{Const, Reset, Input, Reg, Gate}
use Rattle.net_core.specs.declared.gate.Gate as gate
use Rattle.net_core.specs.Rows.{Row, IsRow, gate_value}
use Rattle.net_core.specs.Circuits.{IsThere, wire_at}
use Rattle.net_tidy.specs.inner.Images.{image, row_back}
use Rattle.net_tidy.specs.inner.Made.{AllFit}

-- the wire is no gate, or one with a mark
abbrev pub IsMarked : List Bool → Wire → Type 0
IsMarked marks (Const b) = Unit {0}
IsMarked marks Reset = Unit {0}
IsMarked marks (Input n) = Unit {0}
IsMarked marks (Reg n) = Unit {0}
IsMarked marks (Gate n) = slice_index_or marks n true ≡ true

-- one of the first wires is this gate
pub record IsAmong (wires : List Wire) (count : ℕ) (n : ℕ) : Type 0 where
  pub at : ℕ
  pub below : at < count
  pub is : slice_get wires at ≡ Some (Gate n)

-- the first wires got marks, and no other gates
pub record Marks (old new : List Bool) (wires : List Wire) (count : ℕ) : Type 0 where
  pub long : length new ≡ length old
  pub all : (k : ℕ) (w : Wire) → k < count → slice_get wires k ≡ Some w → IsMarked new w
  pub keeps : (w : Wire) → IsMarked old w → IsMarked new w
  pub only : (n : ℕ) → IsMarked new (Gate n) → IsMarked old (Gate n) ⊎ IsAmong wires count n

-- where the gate of this number has a mark, its pins got marks, and no other gates
pub record Passes (old new : List Bool) (n : ℕ) (pins : List Wire) : Type 0 where
  pub long : length new ≡ length old
  pub closed : IsMarked old (Gate n) → (k : ℕ) (w : Wire) → slice_get pins k ≡ Some w → IsMarked new w
  pub keeps : (w : Wire) → IsMarked old w → IsMarked new w
  pub only : (m : ℕ) → IsMarked new (Gate m)
      → IsMarked old (Gate m) ⊎ (IsMarked old (Gate n) × IsAmong pins (length pins) m)

-- the pins of the last gates that have marks have marks
pub record IsClosedOver (gates : List gate.Gate) (marks : List Bool) (count : ℕ) : Type 0 where
  pub each : (n : ℕ) (g : gate.Gate) → length gates ≤ n + count → slice_get gates n ≡ Some g
      → IsMarked marks (Gate n) → (k : ℕ) (w : Wire) → slice_get g.pins k ≡ Some w → IsMarked marks w

-- a marked gate reads the gate
pub record IsPinOf (gates : List gate.Gate) (marks : List Bool) (n : ℕ) : Type 0 where
  pub reader : ℕ
  pub gate : gate.Gate
  pub at : slice_get gates reader ≡ Some gate
  pub marked : IsMarked marks (Gate reader)
  pub among : IsAmong gate.pins (length gate.pins) n

-- the gate is one of the wires, or a marked gate reads it
abbrev pub IsReached : List gate.Gate → List Bool → List Wire → List Wire → ℕ → Type 0
IsReached gates marks shown next n =
    IsAmong shown (length shown) n ⊎ (IsAmong next (length next) n ⊎ IsPinOf gates marks n)

pub record AllMarked (marks : List Bool) (wires : List Wire) : Type 0 where
  pub each : (k : ℕ) (w : Wire) → slice_get wires k ≡ Some w → IsMarked marks w

-- the equations of the first n gates hold, as far as they have marks
pub record HoldsMarked (n : ℕ) (gates : List gate.Gate) (marks : List Bool) (row : Row) : Type 0 where
  pub each : (k : ℕ) (g : gate.Gate) → k < n → IsMarked marks (Gate k) → slice_get gates k ≡ Some g
      → row.gates k ≡ gate_value row g

-- the gate was added with other pins, if it has a mark
abbrev pub IsKept : Bool → List gate.Gate → List gate.Gate → List Wire → gate.Gate → Wire → Type 0
IsKept true old new places g place =
    (place ≡ Gate (length old)) × (new ≡ old ++ (record { kind = g.kind; pins = map (image places) g.pins }) ∷ [])
IsKept false old new places g place = (place ≡ Const false) × (new ≡ old)

-- the kept gate m is the marked one of the first n gates whose place it is, with other pins
pub record IsFrom (gates : List gate.Gate) (marks : List Bool) (n : ℕ) (places : List Wire) (m : ℕ) (x : gate.Gate)
    : Type 0 where
  pub number : ℕ
  pub below : number < n
  pub marked : IsMarked marks (Gate number)
  pub source : gate.Gate
  pub at : slice_get gates number ≡ Some source
  pub place : wire_at places number ≡ Gate m
  pub kind : x.kind ≡ source.kind
  pub pins : x.pins ≡ map (image places) source.pins

-- the marked ones of the first n gates are kept, each at its place
pub record SweepsTo (i r : ℕ) (gates : List gate.Gate) (marks : List Bool) (n : ℕ) (kept : List gate.Gate)
    (places : List Wire) : Type 0 where
  pub long : length places ≡ n
  pub few : length kept ≤ n
  pub fit : AllFit i r kept
  pub there : (k : ℕ) → k < n → IsThere i r (length kept) (wire_at places k)
  pub rows : (row : Row) → IsRow kept row → HoldsMarked n gates marks (row_back places row)
  pub once : (j k m : ℕ) → j < n → k < n → wire_at places j ≡ Gate m → wire_at places k ≡ Gate m → j ≡ k
  pub placed : (k : ℕ) → k < n → IsMarked marks (Gate k) → (m : ℕ) × (wire_at places k ≡ Gate m)
  pub origin : (m : ℕ) (x : gate.Gate) → slice_get kept m ≡ Some x → IsFrom gates marks n places m x

-- the gates that the wires reach are kept, and the wires are those of the kept gates
pub record IsCut (gates : List gate.Gate) (shown next : List Wire) (kept : List gate.Gate) (shown' next' : List Wire)
    : Type 0 where
  pub marks : List Bool
  pub places : List Wire
  pub sweeps : (i r : ℕ) → AllFit i r gates → SweepsTo i r gates marks (length gates) kept places
  pub closed : (i r : ℕ) → AllFit i r gates → IsClosedOver gates marks (length gates)
  pub reached : (n : ℕ) → n < length gates → IsMarked marks (Gate n) → IsReached gates marks shown next n
  pub shown_marked : AllMarked marks shown
  pub next_marked : AllMarked marks next
  pub shown_is : shown' ≡ map (image places) shown
  pub next_is : next' ≡ map (image places) next
