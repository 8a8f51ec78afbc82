-- A netlist that was made smaller.
use Rattle.std.specs.Prelude.{◌≡◌, ℕ, ◌+◌, ◌≤◌, List, length}
use Rattle.pbs_base.specs.declared.entry.Entry.{Entry}
use Rattle.net_core.specs.Rows.{Row}
use Rattle.net_core.specs.Circuits.{Circuit, IsBuilt, IsCircuit, output_names}
use Rattle.net_core.specs.Runs.{IsRun}
use Rattle.net_core.specs.Unread.{AreUnread}
use Rattle.net_tidy.specs.Follows.{ShowsSame}

-- whatever the new netlist does in a run from reset, the old one does in a run on the same entries
pub record DoesSame (old new : Circuit) : Type 0 where
  pub runs : (v : List Entry) (rows : ℕ → Row) → IsRun new v rows
      → (old_rows : ℕ → Row) × IsRun old v old_rows × ((k : ℕ) → k ≤ length v → ShowsSame old new (old_rows k) (rows k))

-- it does so with the same ports and as many registers, and with at most a gate more for each output, which nothing reads
pub record Shrinks (old new : Circuit) : Type 0 where
  pub circuit : IsCircuit new
  pub inputs : new.inputs ≡ old.inputs
  pub outputs : output_names new ≡ output_names old
  pub registers : length new.registers ≡ length old.registers
  pub built : IsBuilt old.gates → IsBuilt new.gates
  pub unread : AreUnread new
  pub few : length new.gates ≤ length old.gates + length old.outputs
  pub same : DoesSame old new
