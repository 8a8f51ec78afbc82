-- Marked numbers, one bit for each, in words of 64 bits.
use Rattle.std.specs.Prelude.{◌≡◌, ℕ, ◌/◌, ◌%◌, ◌<◌, ◌≤◌, ◌*◌, Bool, true, false, nat_eq, nat_lt, ◌&&◌, ◌||◌}
use Rattle.std.specs.Prelude.{List, length, take, slice_get, slice_index_or, Some}
use Rattle.std.specs.Int.{bit_at}
use Rattle.std.specs.List.{list_any}
use Rattle.pbs_base.specs.Entries.{bit}
use Rattle.net_core.specs.declared.gate.Wire.{Wire}
use Rattle.net_core.specs.declared.gate.Wire.TheVariants.{Const, Reset, Input, Reg, Gate}
use Rattle.net_core.specs.declared.gate.Gate as gate
use Rattle.net_core.specs.Rows.{IsRow, Row, differs, gate_value}
use Rattle.net_core.specs.Circuits.{IsCircuit}
use Rattle.net_eval.specs.Counts.{changed_count, has_changed_pin}
use Rattle.net_eval.specs.States.{State, last_row}

abbrev pub is_marked : List ℕ → ℕ → Bool
is_marked words n = nat_eq (bit_at (slice_index_or words (n / 64) 0) (n % 64)) 1

abbrev pub is_listed : List ℕ → ℕ → Bool
is_listed numbers n = list_any (nat_eq n) numbers

-- the inputs below n that changed
abbrev pub of_inputs : ℕ → ℕ → ℕ → Wire → Bool
of_inputs before now n (Const b) = false
of_inputs before now n Reset = false
of_inputs before now n (Input k) = nat_lt k n && differs (bit k before) (bit k now)
of_inputs before now n (Reg k) = false
of_inputs before now n (Gate k) = false

-- the registers below n that changed
abbrev pub of_registers : List Bool → List Bool → ℕ → Wire → Bool
of_registers before now n (Const b) = false
of_registers before now n Reset = false
of_registers before now n (Input k) = false
of_registers before now n (Reg k) = nat_lt k n && differs (slice_index_or before k false) (slice_index_or now k false)
of_registers before now n (Gate k) = false

-- the gates are marked that were, or that have one of the wires as a pin
pub record Wakes (gates : List gate.Gate) (old new : List ℕ) (wires : Wire → Bool) : Type 0 where
  pub each : (k : ℕ) (g : gate.Gate) → slice_get gates k ≡ Some g
      → is_marked new k ≡ (is_marked old k || list_any wires g.pins)

-- the gates are marked that have a pin whose value changed
pub record Awaits (gates : List gate.Gate) (words : List ℕ) (before now : Row) : Type 0 where
  pub each : (k : ℕ) (g : gate.Gate) → slice_get gates k ≡ Some g → is_marked words k ≡ has_changed_pin before now g

-- no gate is marked
pub record IsClear (gates : ℕ) (words : List ℕ) : Type 0 where
  pub each : (k : ℕ) → k < gates → is_marked words k ≡ false

-- The gates below n have their new values and the others their old ones, and a gate from n on is marked exactly where
-- some pin has changed; `count` is the number of gates below n of which some pin has changed.
pub record Looks (gates : List gate.Gate) (before now : Row) (words : List ℕ) (n count : ℕ) : Type 0 where
  pub below : (k : ℕ) (g : gate.Gate) → k < n → slice_get gates k ≡ Some g → now.gates k ≡ gate_value now g
  pub above : (k : ℕ) → n ≤ k → now.gates k ≡ before.gates k
  pub marked : (k : ℕ) (g : gate.Gate) → n ≤ k → slice_get gates k ≡ Some g
      → is_marked words k ≡ has_changed_pin before now g
  pub clear : (k : ℕ) → k < n → k < length gates → is_marked words k ≡ false
  pub counted : changed_count before now (take n gates) ≡ count

-- between steps no gate is marked, and once a row was made its gates have their values
pub record IsQuiet (s : State) (words : List ℕ) : Type 0 where
  pub circuit : IsCircuit s.net
  pub registers_long : length s.registers ≡ length s.net.registers
  pub last_long : length s.last.registers ≡ length s.net.registers
  pub gates_long : length s.gates ≡ length s.net.gates
  pub long : length s.net.gates ≤ 64 * length words
  pub few : length words < 4294967296
  pub clear : IsClear (length s.net.gates) words
  pub row : s.begun ≡ true → IsRow s.net.gates (last_row s)
