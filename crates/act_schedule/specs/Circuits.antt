-- What the circuits of levels do in each row, and over each run.
use Rattle.std.specs.Prelude.{◌≡◌, ℕ, ◌+◌, ◌*◌, ◌<◌, ◌≤◌, Bool, List, [], ◌∷◌, ◌++◌, length, slice_get, Some}
use Rattle.pbs_base.specs.declared.entry.Entry.{Entry}
use Rattle.net_core.specs.declared.gate.Wire.{Wire}
use Rattle.net_core.specs.Rows.{Row, IsRow, value}
use Rattle.net_core.specs.Circuits.{Circuit, Exists, wire_at}
use Rattle.net_core.specs.Building.{HasAll, Keeps, gate_input_pins, input_pin, input_pins}
use Rattle.net_core.specs.Runs.{IsRun, next_of}
use Rattle.act_schedule.specs.declared.plan.PlanLevel.{PlanLevel}
use Rattle.act_schedule.specs.Levels.{after_actions, level_value, set_where}

-- each wire of the list is there
pub record AllExist (c : Circuit) (wires : List Wire) : Type 0 where
  pub each : (n : ℕ) → n < length wires → Exists c (wire_at wires n)

-- how many levels and assignments there are
abbrev pub level_units : List PlanLevel → ℕ
level_units [] = 0
level_units (level ∷ levels) = 1 + length level.sets + level_units levels

-- the level's value in a row, from the value of its register before
abbrev pub value_in_row : PlanLevel → List Wire → Row → Bool → Bool
value_in_row level fires row was =
    after_actions level.sets (λ a. value row (wire_at fires a)) (set_where row.reset level.start was) (length fires)

-- one register was added for each level, in order, which takes the value of the level's wire
pub record AddsLevels (old new : Circuit) (levels : List PlanLevel) (fires wires : List Wire) : Type 0 where
  pub keeps : Keeps old new
  pub inputs : new.inputs ≡ old.inputs
  pub outputs : new.outputs ≡ old.outputs
  pub count : length wires ≡ length levels
  pub registers : new.registers ≡ old.registers ++ wires
  -- at most two gates for each level and each assignment, and for each level and each action
  pub few : length new.gates ≤ length old.gates + 2 * level_units levels
  pub few_each : length new.gates ≤ length old.gates + 2 * (length levels * (1 + length fires))
  -- where no fire wire is an input, no pin that is one was added, a register's data wire counted as a pin
  pub few_pins : ((a : ℕ) → a < length fires → input_pin (wire_at fires a) ≡ 0)
      → gate_input_pins new.gates + input_pins new.registers ≤ gate_input_pins old.gates + input_pins old.registers
  pub wires_there : HasAll new wires
  -- the value of each level in a row
  pub next : (row : Row) → IsRow new.gates row → (l : ℕ) (level : PlanLevel) → slice_get levels l ≡ Some level
      → value row (wire_at wires l) ≡ value_in_row level fires row (row.registers (length old.registers + l))

-- whether the wire of action a is 1 in row k
abbrev pub fired_in : (ℕ → Row) → List Wire → ℕ → ℕ → Bool
fired_in rows fires k a = value (rows k) (wire_at fires a)

-- in row k the level's wire has the level's value, and after the row its register
pub record FollowsLevel (net : Circuit) (register : ℕ) (level : PlanLevel) (fires : List Wire) (wire : Wire)
    (v : List Entry) (rows : ℕ → Row) (k : ℕ) : Type 0 where
  pub wire_value : value (rows k) wire ≡ level_value level (length fires) v (fired_in rows fires) k
  pub register_value : next_of net (rows k) register ≡ level_value level (length fires) v (fired_in rows fires) k

-- in every run from reset, where the levels' registers are those from `first` on
pub record FollowsLevels (net : Circuit) (first : ℕ) (levels : List PlanLevel) (fires wires : List Wire)
    : Type 0 where
  pub at_row : (v : List Entry) (rows : ℕ → Row) → IsRun net v rows → (k : ℕ) → k ≤ length v
      → (l : ℕ) (level : PlanLevel) → slice_get levels l ≡ Some level
      → FollowsLevel net (first + l) level fires (wire_at wires l) v rows k
