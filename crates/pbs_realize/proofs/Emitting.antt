-- The text of a netlist of few gates, registers and pins is short, and reads back.
use Rattle.std.proofs.Common.{ℕ, ◌≤◌, List, length, codes, arith}
use Rattle.net_core.specs.Circuits.{Circuit, IsCircuit, IsBuilt}
use Rattle.vlog_text.specs.Emitted.{emitted}
use Rattle.vlog_text.specs.PortNames.{HasPortNames}
use Rattle.vlog_text.specs.Reading.{IsShortVerilog, ElaboratesTo}
use Rattle.vlog_write.specs.NamedPins.{HasShortNames, named_pins}
use Rattle.pbs_controller.specs.Controllers.{IsWritable}
use Rattle.pbs_controller.specs.Ports.{ports_of, output_ports}
use Rattle.pbs_realize.proofs.Pins.{pins_are}
use Rattle.pbs_realize.proofs.Ports.{HasPorts, ports_named}

-- the laws on what is written for netlists
pub record Written : Type 0 where
  pub short : (c : Circuit) → IsCircuit c → IsBuilt c.gates → HasPortNames c → HasShortNames c
      → length c.gates ≤ 1185792 → length c.registers ≤ 4160 → named_pins c ≤ 33000 → IsShortVerilog (emitted c)
  pub reads : (c : Circuit) → IsCircuit c → HasPortNames c → IsShortVerilog (emitted c) → ElaboratesTo (emitted c) c

pub stands : (ins actions levels : List (List ℕ)) (gates registers pins : ℕ) (net : Circuit) → Written → gates ≤ 1185792
    → registers ≤ 4160 → pins ≤ 32768
    → IsWritable (ports_of (codes "i_") ins) (output_ports actions levels) gates registers pins net
    → HasPorts net ins actions levels → ElaboratesTo (emitted net) net
stands ins actions levels gates registers pins net laws few_gates few_registers few_pins is ports =
    let names = ports_named net ins actions levels ports in
    let named = pins_are net is.unread in
    let made = is.few_gates in
    let held = is.few_registers in
    let read = is.few_pins in
    let short = laws.short net is.circuit is.plain names.0 names.1 (omega arith) (omega arith) (omega arith) in
    laws.reads net is.circuit names.0 short
