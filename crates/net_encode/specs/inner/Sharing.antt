-- The wires that registers of groups take.
use Rattle.std.specs.Prelude.{◌≡◌, ℕ, ◌+◌, ◌<◌, ◌≤◌, Bool, List, [], ◌∷◌, length, map, slice_get, Some}
use Rattle.net_core.specs.declared.gate.Wire.{Wire}
use Rattle.net_core.specs.Rows.{Row, IsRow, value}
use Rattle.net_core.specs.Circuits.{Circuit, Exists, wire_at}
use Rattle.net_core.specs.Building.{HasAll}

-- the members of all groups
abbrev pub member_count : List (List ℕ) → ℕ
member_count [] = 0
member_count (g ∷ gs) = length g + member_count gs

-- at most seven members, each below a number
pub record IsGroup (count : ℕ) (members : List ℕ) : Type 0 where
  pub few : length members ≤ 7
  pub below : (n p : ℕ) → slice_get members n ≡ Some p → p < count

pub record AreGroups (count : ℕ) (groups : List (List ℕ)) : Type 0 where
  pub each : (n : ℕ) (g : List ℕ) → slice_get groups n ≡ Some g → IsGroup count g

-- the first n wires are there
pub record HasFront (c : Circuit) (n : ℕ) (wires : List Wire) : Type 0 where
  pub each : (k : ℕ) → k < n → Exists c (wire_at wires k)

-- the wires have the values of the first n of others, and are no inputs
pub record ShowsFront (c : Circuit) (n : ℕ) (others wires : List Wire) : Type 0 where
  pub there : HasAll c wires
  pub count : length wires ≡ n
  pub meaning : (row : Row) → IsRow c.gates row → (k : ℕ) → k < n
      → value row (wire_at wires k) ≡ value row (wire_at others k)

-- the wires have these values, and are no inputs
pub record ShowsBits (c : Circuit) (wires : List Wire) (bits_of : Row → List Bool) : Type 0 where
  pub there : HasAll c wires
  pub shows : (row : Row) → IsRow c.gates row → map (value row) wires ≡ bits_of row
