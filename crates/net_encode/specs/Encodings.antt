-- What an encoded netlist does, beside the netlist that it was made from.
use Rattle.std.specs.Prelude.{◌≡◌, ℕ, ◌+◌, ◌*◌, ◌<◌, ◌≤◌, true, List, [], ◌∷◌, length, slice_get, Some}
use Rattle.pbs_base.specs.declared.entry.Entry.{Entry}
use Rattle.net_core.specs.declared.codes.Code.{Code}
use Rattle.net_core.specs.declared.codes.Code.TheVariants.{Bits}
use Rattle.net_core.specs.declared.codes.CodePlan.{CodePlan}
use Rattle.net_core.specs.Rows.{Row}
use Rattle.net_core.specs.Circuits.{Circuit, IsBuilt, IsCircuit, output_names}
use Rattle.net_core.specs.Building.{gate_input_pins, input_pins}
use Rattle.net_core.specs.Runs.{IsRun, next_of, output_value}
use Rattle.net_core.specs.Unread.{AreUnread}
use Rattle.net_encode.specs.Codes.{IsDue, Obeys, code_registers, codes_of, tells}

-- each place is told by the register of its number
pub record IsOwnMap (map : List Code) : Type 0 where
  pub each : (p : ℕ) (c : Code) → slice_get map p ≡ Some c → c ≡ Bits ((record { reg = p; value = true }) ∷ [])

-- after each row of each run from reset the registers of the places are as the plan says
pub record ObeysAlways (net : Circuit) (places : ℕ) (plan : CodePlan) : Type 0 where
  pub each : (v : List Entry) (rows : ℕ → Row) → IsRun net v rows → (k : ℕ) → k ≤ length v
      → Obeys places plan (next_of net (rows k))

-- a run of the new netlist beside a run of the old one on the same entries; `count` is the number of places
pub record Mirrors (old new : Circuit) (count : ℕ) (plan : CodePlan) (v : List Entry) (before rows : ℕ → Row)
    : Type 0 where
  pub run : IsRun old v before
  pub resets : (k : ℕ) → (before k).reset ≡ (rows k).reset
  pub vectors : (k : ℕ) → (before k).vector ≡ (rows k).vector
  -- the outputs are the same in each row
  pub outputs : (k n : ℕ) → k ≤ length v → n < length old.outputs
      → output_value new (rows k) n ≡ output_value old (before k) n
  -- after each row a place's old register is 1 exactly where the new ones tell its code
  pub places : (k p : ℕ) (code : Code) → k ≤ length v → slice_get (codes_of plan) p ≡ Some code
      → next_of old (before k) p ≡ tells (next_of new (rows k)) code
  -- each register of a group is 1 exactly where some place that stands has its literal with value true
  pub codes : (k r : ℕ) → k ≤ length v → r < code_registers plan.groups
      → IsDue (next_of old (before k)) (codes_of plan) r (next_of new (rows k) r)
  -- the registers that are no place's follow those of the groups
  pub rest : (k i : ℕ) → k ≤ length v → count + i < length old.registers
      → next_of new (rows k) (code_registers plan.groups + i) ≡ next_of old (before k) (count + i)

-- the new netlist has the old one's ports, registers for the groups and then those that were no place's, and at most
-- eight gates more for each place
pub record Encodes (old new : Circuit) (count : ℕ) (plan : CodePlan) : Type 0 where
  pub circuit : IsCircuit new
  pub inputs : new.inputs ≡ old.inputs
  pub outputs : output_names new ≡ output_names old
  pub registers : length new.registers + count ≡ code_registers plan.groups + length old.registers
  pub few_registers : code_registers plan.groups ≤ count
  pub few : length new.gates ≤ length old.gates + 8 * count
  -- pins that are inputs, a register's data wire counted as a pin
  pub few_pins : gate_input_pins new.gates + input_pins new.registers
      ≤ gate_input_pins old.gates + input_pins old.registers
  pub plain : IsBuilt old.gates → IsBuilt new.gates
  pub unread : AreUnread old → AreUnread new
  -- where the places that stand always are as the plan says, each run is one of the old netlist with these codes
  pub runs : ObeysAlways old count plan → (v : List Entry) (rows : ℕ → Row) → IsRun new v rows
      → (before : ℕ → Row) × Mirrors old new count plan v before rows
