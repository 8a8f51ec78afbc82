-- A controller before and after its places share registers, and its gates are tidied.
use Rattle.std.specs.Prelude.{◌≡◌, ℕ, ◌+◌, ◌*◌, ◌≤◌, ◌⊎◌, List, length, codes}
use Rattle.pbs_base.specs.declared.entry.Entry.{Entry}
use Rattle.pbs_ast.specs.declared.syntax.Spec.{Spec}
use Rattle.pbs_ast.specs.Trees.{Tree}
use Rattle.pbs_ast.specs.Sound.{node_count, place_count, tree_input_leaves}
use Rattle.pbs_names.specs.Naming.{input_names, action_names, level_names}
use Rattle.net_core.specs.declared.codes.Code.{Code}
use Rattle.net_core.specs.declared.codes.CodePlan.{CodePlan}
use Rattle.net_core.specs.Rows.{Row}
use Rattle.net_core.specs.Circuits.{Circuit}
use Rattle.net_core.specs.Building.{gate_input_pins, input_pins}
use Rattle.net_core.specs.Runs.{IsRun}
use Rattle.net_encode.specs.Codes.{codes_of}
use Rattle.net_encode.specs.Encodings.{Encodes}
use Rattle.frag_compose.specs.Composes.{own_codes}
use Rattle.act_schedule.specs.Circuits.{level_units}
use Rattle.pbs_codes.specs.Sharing.{IsSharedBy, KeepsRegisters}
use Rattle.pbs_controller.specs.Controllers.{IsController, IsWritable}
use Rattle.pbs_controller.specs.Ports.{ports_of, output_ports}
use Rattle.pbs_realize.specs.Codes.{AreCodes}
use Rattle.pbs_realize.specs.Realizes.{ShowsDue, level_plan}
use Rattle.pbs_realize.specs.inner.Shrinking.{Shrinks}

-- the controller of a specification's tree, with its names
abbrev pub ControllerOf : Spec → Tree → Circuit → Type 0
ControllerOf spec tree net =
    IsController (input_names spec.inputs) (action_names spec.actions) (level_names spec.levels) (level_plan spec)
    tree net

-- the places of the tree share registers, or nothing has changed
pub data Recodes (tree : Tree) (old new : Circuit) (place_codes : List Code) : Type 0 where
  ByPlan : (plan : CodePlan) → IsSharedBy tree plan → Encodes old new (place_count tree) plan
      → place_codes ≡ codes_of plan → Recodes tree old new place_codes
  AsItWas : KeepsRegisters tree → new ≡ old → place_codes ≡ own_codes (place_count tree)
      → Recodes tree old new place_codes

-- unneeded gates were taken away, or nothing has changed
pub data Tidies (old new : Circuit) : Type 0 where
  Tidied : Shrinks old new → gate_input_pins new.gates + input_pins new.registers ≤ 32768 → Tidies old new
  Kept : new ≡ old → Tidies old new

-- the most gates of a controller with such names and levels, where each output has so many
abbrev pub gate_limit : ℕ → Spec → Tree → ℕ
gate_limit each spec tree =
    20 * node_count tree + 8 * place_count tree
    + 2 * (length (level_plan spec) * (1 + length (action_names spec.actions)))
    + each * (length (action_names spec.actions) + length (level_plan spec))

-- a controller of the tree whose registers tell places by these codes, with so many gates for each output
pub record IsCoded (each : ℕ) (spec : Spec) (tree : Tree) (net : Circuit) (place_codes : List Code) : Type 0 where
  pub places : ℕ
  pub coded : AreCodes tree places place_codes
  pub few_places : places ≤ place_count tree
  pub pins : ℕ
  pub few_pins : (pins ≤ tree_input_leaves tree) ⊎ (pins ≤ 32768)
  pub writable : IsWritable (ports_of (codes "i_") (input_names spec.inputs))
      (output_ports (action_names spec.actions) (level_names spec.levels)) (gate_limit each spec tree)
      (place_count tree + length (level_plan spec)) pins net
  pub few : length net.gates ≤ 20 * node_count tree + 8 * place_count tree + 2 * level_units (level_plan spec)
      + each * (length (action_names spec.actions) + length (level_plan spec))
  pub registers : length net.registers ≡ places + length (level_plan spec)
  pub shows : (v : List Entry) (rows : ℕ → Row) → IsRun net v rows → (k : ℕ) → k ≤ length v
      → ShowsDue net tree places place_codes (length (action_names spec.actions)) (level_plan spec) v rows k
