-- What a composed circuit does in each row, and over each run.
use Rattle.std.specs.Prelude.{◌≡◌, ℕ, zero, suc, ◌+◌, ◌*◌, ◌<◌, ◌≤◌, true, List, [], ◌∷◌, ◌++◌, length}
use Rattle.pbs_base.specs.declared.entry.Entry.{Entry}
use Rattle.pbs_base.specs.Entries.{since}
use Rattle.pbs_ast.specs.Trees.{Tree, is_place, is_action}
use Rattle.pbs_ast.specs.Sound.{node_count, place_count, tree_input_leaves}
use Rattle.pbs_derive.specs.Derivations.{stands, NoOverlapBelow}
use Rattle.pbs_derive.specs.Derivations.{fires as firing}
use Rattle.pbs_machine.specs.Rows.{main_starts}
use Rattle.net_core.specs.declared.gate.Wire.{Wire}
use Rattle.net_core.specs.declared.codes.Code.{Code}
use Rattle.net_core.specs.declared.codes.Code.TheVariants.{Bits}
use Rattle.net_core.specs.Rows.{Row, IsRow, value}
use Rattle.net_core.specs.Circuits.{Circuit, wire_at}
use Rattle.net_core.specs.Building.{HasAll, Keeps, gate_input_pins, input_pins}
use Rattle.net_core.specs.Runs.{IsRun, next_of}

-- the circuit of main was added: one register for each place, one wire for each of m actions
pub record Composes (old new : Circuit) (main : Tree) (m : ℕ) (fires : List Wire) : Type 0 where
  pub keeps : Keeps old new
  pub inputs : new.inputs ≡ old.inputs
  pub outputs : new.outputs ≡ old.outputs
  pub few : length new.gates ≤ length old.gates + 20 * node_count main
  -- pins that are inputs, a register's data wire counted as a pin
  pub few_pins : gate_input_pins new.gates + input_pins new.registers
      ≤ gate_input_pins old.gates + input_pins old.registers + tree_input_leaves main
  -- the next value of each register
  pub places : length new.registers ≡ place_count main
  pub data_wires : HasAll new new.registers
  pub next : (row : Row) → IsRow new.gates row → (p : ℕ) → p < place_count main
      → value row (wire_at new.registers p) ≡ main_starts main (is_place p) row.registers row.vector row.reset
  -- the fire bit of each action
  pub actions : length fires ≡ m
  pub fires_there : HasAll new fires
  pub fire : (row : Row) → IsRow new.gates row → (a : ℕ) → a < m
      → value row (wire_at fires a) ≡ main_starts main (is_action a) row.registers row.vector row.reset

-- after row k each place's register says whether the place stands over the vectors since the last reset, and in row k
-- each fire wire whether its action fires
pub record FollowsRow (net : Circuit) (fires : List Wire) (main : Tree) (m : ℕ) (v : List Entry) (rows : ℕ → Row)
    (k : ℕ) : Type 0 where
  pub registers : (p : ℕ) → p < place_count main
      → next_of net (rows k) p ≡ stands main (since v k) 0 (length (since v k)) p
  pub fire_wires : (a : ℕ) → a < m
      → value (rows k) (wire_at fires a) ≡ firing main (since v k) 0 (length (since v k)) a

-- in every run from reset, where no scope was begun again while it was live since the last reset
pub record Follows (net : Circuit) (fires : List Wire) (main : Tree) (m : ℕ) : Type 0 where
  pub at_row : (v : List Entry) (rows : ℕ → Row) → IsRun net v rows → (k : ℕ) → k ≤ length v
      → NoOverlapBelow main (since v k) (length (since v k)) → FollowsRow net fires main m v rows k

-- each place stands where the register of its number is 1
abbrev pub own_code : ℕ → Code
own_code p = Bits (record { reg = p; value = true } ∷ [])

abbrev pub own_codes : ℕ → List Code
own_codes zero = []
own_codes (suc p) = own_codes p ++ own_code p ∷ []
