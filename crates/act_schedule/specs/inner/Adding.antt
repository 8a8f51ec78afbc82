-- One level more.
use Rattle.std.specs.Prelude.{◌≡◌, ℕ, zero, suc, ◌+◌, ◌*◌, ◌≤◌, Bool, List, [], ◌∷◌, ◌++◌, length, Option, Some, None}
use Rattle.net_core.specs.declared.gate.Wire.{Wire}
use Rattle.net_core.specs.Rows.{Row, IsRow, value}
use Rattle.net_core.specs.Circuits.{Circuit, Exists}
use Rattle.net_core.specs.Building.{Keeps, gate_input_pins, input_pin, input_pins}
use Rattle.act_schedule.specs.declared.plan.PlanSet.{PlanSet}
use Rattle.act_schedule.specs.declared.plan.PlanLevel.{PlanLevel}
use Rattle.act_schedule.specs.Levels.{set_of}
use Rattle.act_schedule.specs.Circuits.{value_in_row}

abbrev pub listed_one : Option Bool → ℕ
listed_one None = 0
listed_one (Some bit) = 1

-- how many of the first m actions are listed
abbrev pub listed_below : List PlanSet → ℕ → ℕ
listed_below sets zero = 0
listed_below sets (suc a) = listed_below sets a + listed_one (set_of sets a)

-- a register was added that takes the wire's value, which is the level's
pub record AddsLevel (old new : Circuit) (level : PlanLevel) (fires : List Wire) (wire : Wire) : Type 0 where
  pub keeps : Keeps old new
  pub inputs : new.inputs ≡ old.inputs
  pub outputs : new.outputs ≡ old.outputs
  pub registers : new.registers ≡ old.registers ++ wire ∷ []
  pub few : length new.gates ≤ length old.gates + 2 * (1 + length level.sets)
  pub few_each : length new.gates ≤ length old.gates + 2 * (1 + length fires)
  pub few_pins : gate_input_pins new.gates ≤ gate_input_pins old.gates + input_pins fires
  pub there : Exists new wire
  pub inner : input_pin wire ≡ 0
  pub next : (row : Row) → IsRow new.gates row
      → value row wire ≡ value_in_row level fires row (row.registers (length old.registers))
