-- Gates that drive outputs and that nothing reads.
use Rattle.std.specs.Prelude.{◌≡◌, ◌≢◌, ℕ, List, slice_get, Some}
use Rattle.net_core.specs.declared.gate.Wire.{Wire}
use Rattle.net_core.specs.declared.gate.Wire.TheVariants as wire
use Rattle.net_core.specs.declared.gate.Gate as gate
use Rattle.net_core.specs.declared.netlist.Output.{Output}
use Rattle.net_core.specs.Circuits.{Circuit}

-- the wire names no gate that drives one of the outputs
pub record ReadsNone (outputs : List Output) (w : Wire) : Type 0 where
  pub each : (n : ℕ) (o : Output) → slice_get outputs n ≡ Some o → w ≢ wire.Gate o.gate

-- no pin of a gate and no register's data wire names a gate that drives an output
pub record AreUnread (c : Circuit) : Type 0 where
  pub pins : (n : ℕ) (g : gate.Gate) → slice_get c.gates n ≡ Some g → (k : ℕ) (w : Wire) → slice_get g.pins k ≡ Some w
      → ReadsNone c.outputs w
  pub data_wires : (r : ℕ) (w : Wire) → slice_get c.registers r ≡ Some w → ReadsNone c.outputs w
