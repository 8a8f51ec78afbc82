use Rattle.std.proofs.Common.{◌≡◌, ◌++◌, drop}
use Rattle.net_core.specs.declared.gate.Gate.{Gate}
use Rattle.vlog_text.specs.Emitted.{driven, numbered, wire_line, wire_lines}
use Rattle.vlog_write.proofs.text.put_wire_lines.Given as goal

abbrev pub invariant-loop-gate : goal.invariant-loop-gate
invariant-loop-gate l =
    l.text.items ++ numbered (λ n (g : Gate). wire_line (driven l.net n) n) l.gate (drop l.gate l.net.gates)
    ≡ l.fn.text.items ++ wire_lines l.net
