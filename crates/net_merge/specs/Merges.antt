-- When a circuit does in every run what another one does, and reads one of the registers that take one gate.
use Rattle.std.specs.Prelude.{◌≡◌, ℕ, ◌<◌, ◌≤◌, List, length, slice_get, Some}
use Rattle.pbs_base.specs.declared.entry.Entry.{Entry}
use Rattle.net_core.specs.declared.gate.Wire.{Wire}
use Rattle.net_core.specs.declared.gate.Wire.TheVariants as wire
use Rattle.net_core.specs.declared.gate.Gate as gate
use Rattle.net_core.specs.Rows.{Row}
use Rattle.net_core.specs.Circuits.{Circuit, IsBuilt, IsCircuit}
use Rattle.net_core.specs.Runs.{IsRun}
use Rattle.net_tidy.specs.Follows.{ShowsSame}

-- the wire is a register, and an earlier one takes the same gate
pub record IsLater (registers : List Wire) (w : Wire) : Type 0 where
  pub register : ℕ
  pub is : w ≡ wire.Reg register
  pub earlier : ℕ
  pub before : earlier < register
  pub gate : ℕ
  pub takes : slice_get registers register ≡ Some (wire.Gate gate)
  pub took : slice_get registers earlier ≡ Some (wire.Gate gate)

-- no gate and no register reads a register where an earlier one takes the same gate
pub record ReadsFirsts (c : Circuit) : Type 0 where
  pub pins : (n : ℕ) (g : gate.Gate) → slice_get c.gates n ≡ Some g → (k : ℕ) (w : Wire) → slice_get g.pins k ≡ Some w
      → IsLater c.registers w → ⊥
  pub data_wires : (r : ℕ) (w : Wire) → slice_get c.registers r ≡ Some w → IsLater c.registers w → ⊥

-- the circuit has the ports and as many gates and registers, and whatever it does from reset on, the source does too
pub record Merges (source result : Circuit) : Type 0 where
  pub circuit : IsCircuit result
  pub inputs : result.inputs ≡ source.inputs
  pub outputs : result.outputs ≡ source.outputs
  pub gates : length result.gates ≡ length source.gates
  pub registers : length result.registers ≡ length source.registers
  pub built : IsBuilt source.gates → IsBuilt result.gates
  pub runs : (v : List Entry) (rows : ℕ → Row) → IsRun result v rows
      → (source_rows : ℕ → Row) × IsRun source v source_rows
      × ((k : ℕ) → k ≤ length v → ShowsSame source result (source_rows k) (rows k))
  pub firsts : ReadsFirsts result
