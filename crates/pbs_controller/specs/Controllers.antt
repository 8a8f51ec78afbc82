-- The controller of a tree and of levels.
use Rattle.std.specs.Prelude.{◌≡◌, ℕ, ◌+◌, ◌*◌, ◌<◌, ◌≤◌, Bool, List, length, codes, slice_get, Some}
use Rattle.pbs_base.specs.declared.entry.Entry.{Entry}
use Rattle.pbs_base.specs.Entries.{since}
use Rattle.pbs_ast.specs.Trees.{Tree}
use Rattle.pbs_ast.specs.Sound.{node_count, place_count, tree_input_leaves}
use Rattle.pbs_derive.specs.Derivations.{stands, fires, NoOverlapBelow}
use Rattle.net_core.specs.Rows.{Row}
use Rattle.net_core.specs.Circuits.{Circuit, IsBuilt, IsCircuit, output_names}
use Rattle.net_core.specs.Building.{gate_input_pins, input_pins}
use Rattle.net_core.specs.Runs.{IsRun, next_of, output_value}
use Rattle.act_schedule.specs.declared.plan.PlanLevel.{PlanLevel}
use Rattle.act_schedule.specs.Levels.{level_value}
use Rattle.act_schedule.specs.Circuits.{level_units}
use Rattle.net_core.specs.Unread.{AreUnread}
use Rattle.pbs_controller.specs.Ports.{ports_of, output_ports}

-- action a fires in row k: a derivation of main over the vectors since the last reset ends at it
abbrev pub row_fires : Tree → List Entry → ℕ → ℕ → Bool
row_fires main v k a = fires main (since v k) 0 (length (since v k)) a

-- after row k register p tells whether place p stands over the vectors since the last reset, and in row k output a
-- tells whether action a fires
pub record ShowsRow (net : Circuit) (main : Tree) (m : ℕ) (v : List Entry) (rows : ℕ → Row) (k : ℕ) : Type 0 where
  pub registers : (p : ℕ) → p < place_count main
      → next_of net (rows k) p ≡ stands main (since v k) 0 (length (since v k)) p
  pub outputs : (a : ℕ) → a < m → output_value net (rows k) a ≡ row_fires main v k a

-- levels have the registers from this one on, and the outputs behind those of the m actions: each has the level's value
-- after row k, the register after the row and the output in it
pub record ShowsLevels (net : Circuit) (main : Tree) (first m : ℕ) (plan : List PlanLevel) (v : List Entry)
    (rows : ℕ → Row) (k : ℕ) : Type 0 where
  pub registers : (l : ℕ) (level : PlanLevel) → slice_get plan l ≡ Some level
      → next_of net (rows k) (first + l) ≡ level_value level m v (row_fires main v) k
  pub outputs : (l : ℕ) (level : PlanLevel) → slice_get plan l ≡ Some level
      → output_value net (rows k) (m + l) ≡ level_value level m v (row_fires main v) k

-- in no row up to k had a scope begun again while it was live since the last reset
abbrev pub ApartUntil : Tree → List Entry → ℕ → Type 0
ApartUntil main v k = (j : ℕ) → j ≤ k → NoOverlapBelow main (since v j) (length (since v j))

-- what the text of a netlist needs to be right, with ports of these names: at most so many gates, registers and pins
-- that are inputs, registers' data wires counted
pub record IsWritable (inputs outputs : List (List ℕ)) (gates registers pins : ℕ) (net : Circuit) : Type 0 where
  -- each gate reads earlier gates only, and what is named is there: so each list of entries has its runs
  pub circuit : IsCircuit net
  pub inputs_named : net.inputs ≡ inputs
  pub outputs_named : output_names net ≡ outputs
  pub plain : IsBuilt net.gates
  pub few_gates : length net.gates ≤ gates
  pub few_registers : length net.registers ≤ registers
  pub few_pins : gate_input_pins net.gates + input_pins net.registers ≤ pins
  -- outputs are only shown
  pub unread : AreUnread net

pub record IsController (inputs actions levels : List (List ℕ)) (plan : List PlanLevel) (main : Tree) (net : Circuit)
    : Type 0 where
  -- a port for each input, for each action and for each level, in declared order; at most 20 gates for each node of the
  -- tree and its terms, one for each output, and two for each level and each action; one pin for each input that stands
  -- in a term of the tree
  pub writable : IsWritable (ports_of (codes "i_") inputs) (output_ports actions levels)
      (20 * node_count main + 2 * (length plan * (1 + length actions)) + length actions + length plan)
      (place_count main + length plan) (tree_input_leaves main) net
  -- at most two gates for each level and each assignment
  pub few : length net.gates ≤ 20 * node_count main + 2 * level_units plan + length actions + length plan
  -- a register for each place and for each level
  pub registers : length net.registers ≡ place_count main + length plan
  -- in every run from reset, where no scope was begun again while it was live since the last reset
  pub shows : (v : List Entry) (rows : ℕ → Row) → IsRun net v rows → (k : ℕ) → k ≤ length v
      → NoOverlapBelow main (since v k) (length (since v k)) → ShowsRow net main (length actions) v rows k
  pub shows_levels : (v : List Entry) (rows : ℕ → Row) → IsRun net v rows → (k : ℕ) → k ≤ length v
      → ApartUntil main v k → ShowsLevels net main (place_count main) (length actions) plan v rows k
