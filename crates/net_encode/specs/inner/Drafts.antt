-- Netlists that grow by gates of any kind.
use Rattle.std.specs.Prelude.{◌≡◌, ℕ, zero, suc, ◌+◌, ◌<◌, ◌≤◌, Bool, List, [], ◌∷◌, ◌++◌, length, not, slice_get}
use Rattle.std.specs.Prelude.{Some, replicate}
use Rattle.std.specs.Prelude.{true, false}
use Rattle.net_core.specs.declared.codes.Literal.{Literal}
use Rattle.net_core.specs.declared.codes.Code.{Code}
use Rattle.net_core.specs.declared.codes.Code.TheVariants.{Never, Bits}
use Rattle.net_core.specs.declared.gate.Wire.{Wire}
use Rattle.net_core.specs.declared.gate.Wire.TheVariants.{Const, Reg, Gate}
use Rattle.net_core.specs.Rows.{Row, IsRow, value}
use Rattle.net_core.specs.Circuits.{Circuit, Exists, IsBuilt, wire_at}
use Rattle.net_core.specs.Building.{Extends, HasAll, input_pin}
use Rattle.net_encode.specs.Codes.{tells}

-- registers that aren't bound, and no outputs
abbrev pub unbound : ℕ → List Wire
unbound n = replicate n (Const false)

-- gates were added, `Buf`, `Not`, `And` and `Or` with at most two pins
pub record Grows (old new : Circuit) (count pins : ℕ) : Type 0 where
  pub extends : Extends old new count pins
  pub plain : IsBuilt old.gates → IsBuilt new.gates

-- such gates were added, and the wire has this value in every row
pub record Draws (old new : Circuit) (wire : Wire) (count pins : ℕ) (meaning_of : Row → Bool) : Type 0 where
  pub grows : Grows old new count pins
  pub there : Exists new wire
  pub inner : input_pin wire ≡ 0
  pub meaning : (row : Row) → IsRow new.gates row → value row wire ≡ meaning_of row

-- the wire is there, and no input
pub record IsInside (c : Circuit) (w : Wire) : Type 0 where
  pub there : Exists c w
  pub inner : input_pin w ≡ 0

-- the wire of a literal, where gate r shows the negation of register r
abbrev pub told_wire : Bool → ℕ → Wire
told_wire true r = Reg r
told_wire false r = Gate r

abbrev pub literal_wire_of : Literal → Wire
literal_wire_of l = told_wire l.value l.reg

-- at most three literals, on registers below a number
pub record AreFew (count : ℕ) (literals : List Literal) : Type 0 where
  pub few : length literals ≤ 3
  pub below : (n : ℕ) (l : Literal) → slice_get literals n ≡ Some l → l.reg < count

abbrev pub IsFewCode : ℕ → Code → Type 0
IsFewCode count Never = Unit {0}
IsFewCode count (Bits literals) = AreFew count literals

pub record AreFewCodes (count : ℕ) (codes : List Code) : Type 0 where
  pub each : (n : ℕ) (c : Code) → slice_get codes n ≡ Some c → IsFewCode count c

-- gate r shows the negation of register r, for so many registers
pub record HasInverters (c : Circuit) (count : ℕ) : Type 0 where
  pub gates : count ≤ length c.gates
  pub registers : count ≤ length c.registers
  pub inverts : (row : Row) → IsRow c.gates row → (r : ℕ) → r < count → row.gates r ≡ not (row.registers r)

-- a wire for each code, which is 1 where the registers tell it
pub record TellsAll (c : Circuit) (codes : List Code) (wires : List Wire) : Type 0 where
  pub there : HasAll c wires
  pub count : length wires ≡ length codes
  pub meaning : (row : Row) → IsRow c.gates row → (p : ℕ) (code : Code) → slice_get codes p ≡ Some code
      → value row (wire_at wires p) ≡ tells row.registers code

-- the wires of so many registers from this one on
abbrev pub own_wires : ℕ → ℕ → List Wire
own_wires from zero = []
own_wires from (suc n) = own_wires from n ++ Reg (from + n) ∷ []
