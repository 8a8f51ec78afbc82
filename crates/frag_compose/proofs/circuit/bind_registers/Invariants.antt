use Rattle.std.proofs.Common.{◌≡◌, ℕ, ◌+◌, ◌++◌, take, false}
use Rattle.std.specs.Prelude.{replicate}
use Rattle.net_core.specs.declared.gate.Wire.TheVariants.{Const}
use Rattle.frag_compose.specs.inner.Gains.{with_registers}
use Rattle.frag_compose.proofs.circuit.bind_registers.Given as goal

-- so many registers are bound, and k are not yet
abbrev pub invariant-loop-p : goal.invariant-loop-p
invariant-loop-p l =
    (k : ℕ) × (l.p + k ≡ l.n) × (l.b ≡ with_registers l.fn.b (take l.p l.wires ++ replicate k (Const false)))
