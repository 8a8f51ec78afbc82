use Rattle.std.specs.Prelude.{false, slice_index_or}
use Rattle.net_core.specs.Circuits.{output_gate}
use Rattle.net_trace.proofs.RowLemmas.{HasBits}
use Rattle.net_trace.proofs.lines.outputs_on.Given as goal

abbrev pub invariant-loop-n : goal.invariant-loop-n
invariant-loop-n l = HasBits l.on (λ k. slice_index_or l.sim.gates (output_gate l.sim.net k) false) l.n
