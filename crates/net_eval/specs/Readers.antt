-- Which gates read a wire.
use Rattle.std.specs.Prelude.{◌≡◌, ℕ, suc, ◌+◌, ◌-◌, ◌<◌, ◌≤◌, Bool, false, true, not, nat_eq, cond}
use Rattle.std.specs.Prelude.{List, [], ◌∷◌, length, take, drop, slice_index_or}
use Rattle.std.specs.List.{list_any}
use Rattle.net_core.specs.declared.gate.Wire.{Wire}
use Rattle.net_core.specs.declared.gate.Wire.TheVariants.{Const, Reset, Input, Reg, Gate}
use Rattle.net_core.specs.declared.gate.Gate as gate
use Rattle.net_core.specs.Rows.{differs}
use Rattle.net_core.specs.Circuits.{Circuit, IsThere}

-- the two are one wire
abbrev pub is_wire : Wire → Wire → Bool
is_wire (Const a) (Const b) = not (differs a b)
is_wire (Const a) Reset = false
is_wire (Const a) (Input n) = false
is_wire (Const a) (Reg n) = false
is_wire (Const a) (Gate n) = false
is_wire Reset (Const b) = false
is_wire Reset Reset = true
is_wire Reset (Input n) = false
is_wire Reset (Reg n) = false
is_wire Reset (Gate n) = false
is_wire (Input m) (Const b) = false
is_wire (Input m) Reset = false
is_wire (Input m) (Input n) = nat_eq m n
is_wire (Input m) (Reg n) = false
is_wire (Input m) (Gate n) = false
is_wire (Reg m) (Const b) = false
is_wire (Reg m) Reset = false
is_wire (Reg m) (Input n) = false
is_wire (Reg m) (Reg n) = nat_eq m n
is_wire (Reg m) (Gate n) = false
is_wire (Gate m) (Const b) = false
is_wire (Gate m) Reset = false
is_wire (Gate m) (Input n) = false
is_wire (Gate m) (Reg n) = false
is_wire (Gate m) (Gate n) = nat_eq m n

-- the wire is among the pins
abbrev pub has_pin : Wire → List Wire → Bool
has_pin w pins = list_any (is_wire w) pins

-- the gates that have the wire as a pin, each once and in rising order, where the first has this number
abbrev pub readers_from : ℕ → List gate.Gate → Wire → List ℕ
readers_from n [] w = []
readers_from n (g ∷ gs) w = cond (has_pin w g.pins) (n ∷ readers_from (suc n) gs w) (readers_from (suc n) gs w)

-- the lists of all wires one behind the other, and the place where each starts
pub record Readers : Type 0 where
  pub registers : ℕ
  pub starts : List ℕ
  pub gates : List ℕ

-- the wire's place among all wires of a netlist with this many registers
abbrev pub wire_number : ℕ → Wire → ℕ
wire_number registers (Const false) = 0
wire_number registers (Const true) = 1
wire_number registers Reset = 2
wire_number registers (Input n) = 3 + n
wire_number registers (Reg n) = 67 + n
wire_number registers (Gate n) = 67 + registers + n

-- list k of the lists that stand one behind the other, each from its start to the next one's
abbrev pub list_at : {X : Type 0} → List ℕ → List X → ℕ → List X
list_at starts all k =
    take (slice_index_or starts (k + 1) 0 - slice_index_or starts k 0) (drop (slice_index_or starts k 0) all)

abbrev pub readers_of : ℕ → List ℕ → List ℕ → Readers
readers_of registers starts gates = record { registers = registers; starts = starts; gates = gates }

-- how many gates there are
abbrev pub gate_count : Readers → ℕ
gate_count fanout = length fanout.starts - (68 + fanout.registers)

-- the list of the wire
abbrev pub readers_at : Readers → Wire → List ℕ
readers_at fanout w = list_at fanout.starts fanout.gates (wire_number fanout.registers w)

-- the starts rise, and there is one for each wire, and one more
pub record AreStarts (registers : ℕ) (starts gates : List ℕ) : Type 0 where
  pub registers_few : registers < 4294967295
  pub long : 68 + registers ≤ length starts
  pub rising : (k : ℕ) → k + 1 < length starts → slice_index_or starts k 0 ≤ slice_index_or starts (k + 1) 0
  pub within : (k : ℕ) → k < length starts → slice_index_or starts k 0 ≤ length gates

-- the lists are those of the netlist
pub record IsFanout (net : Circuit) (fanout : Readers) : Type 0 where
  pub registers : fanout.registers ≡ length net.registers
  pub gates : gate_count fanout ≡ length net.gates
  pub readers : (w : Wire) → IsThere 64 (length net.registers) (length net.gates) w
      → readers_at fanout w ≡ readers_from 0 net.gates w
