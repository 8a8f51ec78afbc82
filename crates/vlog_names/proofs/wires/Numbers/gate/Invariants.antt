use Rattle.std.proofs.Common.{◌≡◌, map, take}
use Rattle.vlog_text.specs.declared.raw.RawNetlist.{RawNetlist}
use Rattle.vlog_text.specs.Standing.{pin_wire}
use Rattle.vlog_names.specs.Numbers.{AreNumbers, capped}
use Rattle.vlog_names.proofs.wires.Numbers.gate.Given as goal

abbrev pub invariant-loop-pin : goal.invariant-loop-pin
invariant-loop-pin l = (raw : RawNetlist) → AreNumbers raw l.self
    → l.pins ≡ map capped (map (pin_wire raw) (take l.pin-index l.pin-items))
