use Rattle.std.proofs.Common.{◌≡◌, ◌++◌, false}
use Rattle.std.specs.Prelude.{replicate}
use Rattle.net_core.specs.declared.gate.Wire.TheVariants.{Const}
use Rattle.frag_compose.specs.inner.Gains.{with_registers}
use Rattle.frag_compose.proofs.circuit.add_registers.Given as goal

abbrev pub invariant-loop : goal.invariant-loop
invariant-loop l = l.b ≡ with_registers l.fn.b (l.fn.b.registers ++ replicate l.counter (Const false))
