use Rattle.std.proofs.Common.{◌≡◌, ◌++◌, drop}
use Rattle.std.specs.List.{flat_map}
use Rattle.net_core.specs.declared.gate.Wire.{Wire}
use Rattle.vlog_text.specs.Emitted.{listed, operand_text}
use Rattle.vlog_write.proofs.lines.put_pins.Given as goal

abbrev pub invariant-loop-pin : goal.invariant-loop-pin
invariant-loop-pin l =
    l.text.items ++ flat_map (λ (w : Wire). listed (operand_text l.net w)) (drop l.pin-index l.pins)
    ≡ l.fn.text.items ++ flat_map (λ (w : Wire). listed (operand_text l.net w)) l.pins
