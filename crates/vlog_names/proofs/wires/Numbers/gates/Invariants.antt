use Rattle.std.proofs.Common.{◌≡◌, map, take}
use Rattle.vlog_text.specs.declared.raw.RawNetlist.{RawNetlist}
use Rattle.vlog_text.specs.declared.raw.RawGate.{RawGate}
use Rattle.vlog_text.specs.Standing.{resolved}
use Rattle.vlog_names.specs.Numbers.{AreNumbers, capped_gate}
use Rattle.vlog_names.proofs.wires.Numbers.gates.Given as goal

abbrev pub invariant-loop-gate : goal.invariant-loop-gate
invariant-loop-gate l = (raw : RawNetlist) → AreNumbers raw l.self
    → l.all ≡ map (λ (g : RawGate). capped_gate (resolved raw g)) (take l.gate-index l.gates)
