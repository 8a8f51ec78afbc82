use Rattle.std.proofs.Common.{◌≡◌, ◌++◌, codes, drop}
use Rattle.net_core.specs.declared.gate.Wire.{Wire}
use Rattle.vlog_text.specs.Emitted.{declared, numbered, reg_lines, reg_name}
use Rattle.vlog_write.proofs.text.put_reg_lines.Given as goal

abbrev pub invariant-loop-reg : goal.invariant-loop-reg
invariant-loop-reg l =
    l.text.items
    ++ numbered (λ n (w : Wire). declared (codes "reg") (reg_name n)) l.reg (drop l.reg l.net.registers)
    ≡ l.fn.text.items ++ reg_lines l.net
