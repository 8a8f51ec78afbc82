use Rattle.std.proofs.Common.{◌≡◌, ◌+◌, ◌≤◌, drop}
use Rattle.net_core.specs.Building.{gate_input_pins}
use Rattle.pbs_realize.proofs.tidying.count_gate_inputs.Given as goal

abbrev pub invariant-loop-gate : goal.invariant-loop-gate
invariant-loop-gate l =
    (l.count + gate_input_pins (drop l.gate-index l.gates) ≡ gate_input_pins l.gates) × (l.count ≤ 32768)
