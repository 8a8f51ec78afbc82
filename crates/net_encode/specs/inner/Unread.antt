-- Gates that drive outputs and that nothing reads, as a netlist grows.
use Rattle.std.specs.Prelude.{◌≡◌, ℕ, ◌<◌, List, length, slice_get, Some}
use Rattle.net_core.specs.declared.gate.Wire.{Wire}
use Rattle.net_core.specs.declared.gate.Gate as gate
use Rattle.net_core.specs.declared.netlist.Output.{Output}
use Rattle.net_core.specs.Circuits.{Circuit}
use Rattle.net_core.specs.Unread.{ReadsNone}

-- none of the wires names a gate that drives one of the outputs
pub record AllReadNone (outputs : List Output) (wires : List Wire) : Type 0 where
  pub each : (n : ℕ) (w : Wire) → slice_get wires n ≡ Some w → ReadsNone outputs w

-- the outputs' gates are there, and no pin names one of them
pub record PinsReadNone (outputs : List Output) (c : Circuit) : Type 0 where
  pub there : (n : ℕ) (o : Output) → slice_get outputs n ≡ Some o → o.gate < length c.gates
  pub pins : (n : ℕ) (g : gate.Gate) → slice_get c.gates n ≡ Some g → AllReadNone outputs g.pins

-- what the old pins and the given wires don't read, the new pins and the wires that were drawn don't read either
pub record LeavesUnread (old new : Circuit) (given drawn : List Wire) : Type 0 where
  pub pins : (outputs : List Output) → PinsReadNone outputs old → AllReadNone outputs given → PinsReadNone outputs new
  pub wires : (outputs : List Output) → PinsReadNone outputs old → AllReadNone outputs given
      → AllReadNone outputs drawn
