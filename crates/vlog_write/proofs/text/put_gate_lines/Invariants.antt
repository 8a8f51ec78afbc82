use Rattle.std.proofs.Common.{◌≡◌, ◌++◌, drop}
use Rattle.vlog_text.specs.Emitted.{gate_line, gate_lines, numbered}
use Rattle.vlog_write.proofs.text.put_gate_lines.Given as goal

abbrev pub invariant-loop-number : goal.invariant-loop-number
invariant-loop-number l =
    l.text.items ++ numbered (gate_line l.net) l.number (drop l.number l.net.gates)
    ≡ l.fn.text.items ++ gate_lines l.net
