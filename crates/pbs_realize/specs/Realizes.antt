-- When a netlist, and a text, is right for a specification.
use Rattle.std.specs.Prelude.{◌≡◌, ℕ, ◌+◌, ◌*◌, ◌<◌, ◌≤◌, List, length, codes, map, sum}
use Rattle.pbs_base.specs.declared.entry.Entry.{Entry}
use Rattle.pbs_ast.specs.declared.syntax.Level.{Level}
use Rattle.pbs_ast.specs.declared.syntax.Spec.{Spec}
use Rattle.pbs_ast.specs.Trees.{Tree}
use Rattle.pbs_ast.specs.Sound.{node_count, place_count}
use Rattle.pbs_names.specs.Naming.{input_names, action_names, level_names}
use Rattle.pbs_expand.specs.Expanded.{expanded}
use Rattle.net_core.specs.declared.codes.Code.{Code}
use Rattle.net_core.specs.Rows.{Row}
use Rattle.net_core.specs.Circuits.{Circuit, IsBuilt, IsCircuit, output_names}
use Rattle.net_core.specs.Runs.{IsRun, output_value}
use Rattle.vlog_text.specs.Reading.{ElaboratesTo}
use Rattle.vlog_text.specs.Emitted.{emitted}
use Rattle.act_schedule.specs.declared.plan.PlanLevel.{PlanLevel}
use Rattle.pbs_controller.specs.Controllers.{ShowsLevels, row_fires}
use Rattle.pbs_controller.specs.LevelPlans.{plan_of}
use Rattle.pbs_controller.specs.Ports.{ports_of, output_ports}
use Rattle.pbs_realize.specs.Codes.{AreCodes, ShowsCodes}

-- the nodes of the tree and of its terms, the declared inputs, actions and levels, and the assignments of levels
abbrev pub units : Spec → ℕ
units spec =
    node_count (expanded spec) + length (input_names spec.inputs) + length (action_names spec.actions)
    + length spec.levels + sum (map (λ (l : Level). length l.sets) spec.levels)

-- what the levels start with, and what each does when an action fires
abbrev pub level_plan : Spec → List PlanLevel
level_plan spec = plan_of (action_names spec.actions) spec.levels

-- what a netlist shows in row k, where so many registers tell the codes of places, m actions have the first outputs, and
-- levels have what is behind
pub record ShowsDue (net : Circuit) (main : Tree) (registers : ℕ) (place_codes : List Code) (m : ℕ)
    (plan : List PlanLevel) (v : List Entry) (rows : ℕ → Row) (k : ℕ) : Type 0 where
  -- the output of an action is 1 exactly where a derivation of the vectors since the last reset ends at it
  pub fires : (a : ℕ) → a < m → output_value net (rows k) a ≡ row_fires main v k a
  -- the output of a level, and its register after the row, have the level's value after the row
  pub levels : ShowsLevels net main registers m plan v rows k
  -- the registers after the row tell which places stand
  pub places : ShowsCodes net main registers place_codes v rows k

-- the netlist is a controller of the specification, whose registers tell places by these codes
pub record Realizes (spec : Spec) (net : Circuit) (place_codes : List Code) : Type 0 where
  -- each gate reads earlier gates only, and what is named is there: so every list of entries has a run
  pub circuit : IsCircuit net
  -- a port for each input, for each action and for each level, in declared order
  pub inputs : net.inputs ≡ ports_of (codes "i_") (input_names spec.inputs)
  pub outputs : output_names net ≡ output_ports (action_names spec.actions) (level_names spec.levels)
  -- the codes are those of the tree; they have at most one register for each place, and each level has one behind them
  pub places : ℕ
  pub coded : AreCodes (expanded spec) places place_codes
  pub few_places : places ≤ place_count (expanded spec)
  pub registers : length net.registers ≡ places + length spec.levels
  -- in every run from reset, in every row
  pub shows : (v : List Entry) (rows : ℕ → Row) → IsRun net v rows → (k : ℕ) → k ≤ length v
      → ShowsDue net (expanded spec) places place_codes (length (action_names spec.actions)) (level_plan spec) v rows k
  -- `buf`, `not`, `and` and `or` with at most two pins, and at most 32 gates for each unit
  pub plain : IsBuilt net.gates
  pub few : length net.gates ≤ 32 * units spec

-- the text has at most 67,108,864 bytes, breaks no rule, and stands for a controller of the specification; and it is
-- the text that is written for that netlist: its ports are `clk`, `rst`, the inputs, the actions and the levels in this
-- order, and its registers are `q0`, `q1` and so on
pub record IsRight (spec : Spec) (text : List ℕ) : Type 0 where
  pub net : Circuit
  pub place_codes : List Code
  pub stands : ElaboratesTo text net
  pub written : text ≡ emitted net
  pub realizes : Realizes spec net place_codes
