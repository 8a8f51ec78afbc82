use Rattle.std.proofs.Common.{◌≡◌, ◌+◌, ◌≤◌, drop}
use Rattle.net_core.specs.Building.{input_pins}
use Rattle.pbs_realize.proofs.tidying.count_inputs.Given as goal

abbrev pub invariant-loop-wire : goal.invariant-loop-wire
invariant-loop-wire l =
    (l.count + input_pins (drop l.wire-index l.wires) ≡ l.before + input_pins l.wires) × (l.count ≤ 32768)
