-- The numbers of names, as the tables have them.
use Rattle.std.specs.Prelude.{◌≡◌, ℕ, ◌<◌, min, Bool, List, map, Option, Some, unwrap_or}
use Rattle.net_core.specs.declared.gate.Wire.{Wire}
use Rattle.net_core.specs.declared.gate.Wire.TheVariants as wire
use Rattle.net_core.specs.declared.gate.Gate as gate
use Rattle.vlog_text.specs.declared.raw.RawName.{RawName}
use Rattle.vlog_text.specs.declared.raw.RawGate.{RawGate}
use Rattle.vlog_text.specs.declared.raw.RawReg.{RawReg}
use Rattle.vlog_text.specs.declared.raw.RawNetlist.{RawNetlist}
use Rattle.vlog_text.specs.Words.{target_name}
use Rattle.vlog_text.specs.Standing.{inputs, registers}
use Rattle.vlog_names.specs.declared.wires.Numbers.{Numbers}
use Rattle.vlog_names.specs.Names.{first_in, kinds_in, is_plain, IsFirsts, KnowsKinds}

-- what the tables say of a word: an input other than `clk` and `rst`; an output; the gate that drives it, 0 where none
-- does; the `always` that drives it
abbrev pub names_input : Numbers → List ℕ → Bool
names_input numbers w = is_plain (kinds_in numbers.kinds w) w

abbrev pub names_output : Numbers → List ℕ → Bool
names_output numbers w = (kinds_in numbers.kinds w).output

abbrev pub driver_in : Numbers → List ℕ → ℕ
driver_in numbers w = unwrap_or (first_in numbers.gates w) 0

abbrev pub always_in : Numbers → List ℕ → Option ℕ
always_in numbers w = first_in numbers.regs w

-- the numbers of gates and registers have 32 bits
pub record AreFew (numbers : Numbers) : Type 0 where
  pub gates : (w : List ℕ) (n : ℕ) → first_in numbers.gates w ≡ Some n → n < 4294967296
  pub registers : (w : List ℕ) (n : ℕ) → first_in numbers.registers w ≡ Some n → n < 4294967296

-- the tables are those of the raw netlist
pub record AreNumbers (raw : RawNetlist) (numbers : Numbers) : Type 0 where
  pub kinds : KnowsKinds raw.decls numbers.kinds
  pub inputs_are : IsFirsts (map (λ (n : RawName). Some n) (inputs raw)) numbers.inputs
  pub registers_are : IsFirsts (map (λ (n : RawName). Some n) (registers raw)) numbers.registers
  pub gates_are : IsFirsts (map (λ (g : RawGate). target_name g.target) raw.gates) numbers.gates
  pub regs_are : IsFirsts (map (λ (r : RawReg). Some r.target) raw.regs) numbers.regs
  pub few : AreFew numbers

-- input numbers go up to 255 only
abbrev pub capped : Wire → Wire
capped (wire.Input n) = wire.Input (min n 255)
capped w = w

abbrev pub capped_gate : gate.Gate → gate.Gate
capped_gate g = record { kind = g.kind; pins = map capped g.pins }
