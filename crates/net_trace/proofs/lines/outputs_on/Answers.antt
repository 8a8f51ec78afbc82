use Rattle.std.proofs.Common.{◌+◌, ℕ, Bool, arith, subst, sym, ◌∙◌}
use Rattle.std.specs.Prelude.{false, slice_index_or}
use Rattle.net_core.specs.Circuits.{output_gate}
use Rattle.net_trace.proofs.RowLemmas.{HasBits, bit_on, bit_off}
use Rattle.net_trace.proofs.lines.outputs_on.Goals as goal
use Rattle.net_trace.proofs.lines.outputs_on.Goals.{then-output, else-output}

pub loop-n-preserved : goal.loop-n-preserved
loop-n-preserved c =
    let sim = c.args.sim.now in
    let bits : ℕ → Bool = λ k. slice_index_or sim.gates (output_gate sim.net k) false in
    elim c.if-output.branch [
      | then-output w ↦ subst (λ on. HasBits on bits (c.loop-n.n + 1)) (sym w.on-is)
          (bit_on c.loop-n.on bits c.loop-n.n (omega (arith, c.requires.few)) c.loop-n.invariant (sym c.output.ensures
          ∙ w.if-output.true))
      | else-output w ↦ subst (λ on. HasBits on bits (c.loop-n.n + 1)) (sym w.on-is)
          (bit_off c.loop-n.on bits c.loop-n.n c.loop-n.invariant (sym c.output.ensures ∙ w.if-output.false))
    ]
