-- Pins that are written with the name of a port, and ports whose names are short.
use Rattle.std.specs.Prelude.{◌≡◌, ℕ, ◌+◌, ◌≤◌, List, [], ◌∷◌, length, slice_get, Option, Some, None}
use Rattle.net_core.specs.declared.gate.Wire.{Wire}
use Rattle.net_core.specs.declared.gate.Wire.TheVariants as wire
use Rattle.net_core.specs.declared.gate.Gate as gate
use Rattle.net_core.specs.declared.netlist.Output.{Output}
use Rattle.net_core.specs.Circuits.{Circuit}
use Rattle.vlog_text.specs.Emitted.{driven}
use Rattle.vlog_text.specs.PortNames.{port_names}

abbrev pub output_pin : Option Output → ℕ
output_pin (Some o) = 1
output_pin None = 0

-- how many pins of a wire, of a list of wires and of a list of gates name an input, or a gate that drives an output
abbrev pub named_pin : Circuit → Wire → ℕ
named_pin c (wire.Const b) = 0
named_pin c wire.Reset = 0
named_pin c (wire.Input n) = 1
named_pin c (wire.Reg n) = 0
named_pin c (wire.Gate g) = output_pin (driven c g)

abbrev pub list_named_pins : Circuit → List Wire → ℕ
list_named_pins c [] = 0
list_named_pins c (w ∷ ws) = named_pin c w + list_named_pins c ws

abbrev pub gate_named_pins : Circuit → List gate.Gate → ℕ
gate_named_pins c [] = 0
gate_named_pins c (g ∷ gs) = list_named_pins c g.pins + gate_named_pins c gs

-- of all gates, and of the data wires of the registers
abbrev pub named_pins : Circuit → ℕ
named_pins c = gate_named_pins c c.gates + list_named_pins c c.registers

-- each port has a name of at most 68 bytes
pub record HasShortNames (c : Circuit) : Type 0 where
  pub each : (n : ℕ) (name : List ℕ) → slice_get (port_names c) n ≡ Some name → length name ≤ 68
