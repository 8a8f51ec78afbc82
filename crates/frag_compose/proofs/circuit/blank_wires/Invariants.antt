use Rattle.std.proofs.Common.{◌≡◌, false}
use Rattle.std.specs.Prelude.{replicate}
use Rattle.net_core.specs.declared.gate.Wire.TheVariants.{Const}
use Rattle.frag_compose.proofs.circuit.blank_wires.Given as goal

abbrev pub invariant-loop : goal.invariant-loop
invariant-loop l = l.wires ≡ replicate l.counter (Const false)
