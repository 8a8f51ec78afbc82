use Rattle.std.proofs.Common.{◌≡◌, ◌++◌, drop}
use Rattle.vlog_text.specs.Emitted.{always_line, always_lines, numbered}
use Rattle.vlog_write.proofs.text.put_always_lines.Given as goal

abbrev pub invariant-loop-reg : goal.invariant-loop-reg
invariant-loop-reg l =
    l.text.items ++ numbered (always_line l.net) l.reg (drop l.reg l.net.registers)
    ≡ l.fn.text.items ++ always_lines l.net
