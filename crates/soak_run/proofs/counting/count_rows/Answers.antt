use Rattle.std.proofs.Common.{◌≡◌, ◌+◌, suc, false, subst, ◌∙◌, refl, arith}
use Rattle.pbs_base.specs.declared.entry.Entry.TheVariants.{Vector}
use Rattle.net_core.specs.Circuits.{IsCircuit}
use Rattle.net_eval.specs.States.{Steps}
use Rattle.soak_run.specs.Soaks.{entries, vector}
use Rattle.soak_run.specs.inner.Tallies.{Counting}
use Rattle.soak_run.proofs.Counted.{begun, one_more}
use Rattle.soak_run.proofs.counting.count_rows.Goals as goal

pub loop-t-init : goal.loop-t-init
loop-t-init c =
    let steps = c.step.ensures.steps in
    let same = c.in_ok-sim.ensures.net in
    begun c.args.n c.step.new.self c.args.net.now (record { hit = 0; pass = 0; lost = 0 }) c.with_row-counts.result
    (subst IsCircuit same steps.circuit) (steps.net ∙ same)
    (c.simulation.ensures.first c.in_ok-sim.sim c.step.new.self c.in_ok-sim.ensures.fresh steps) refl refl refl
    c.with_row-counts.ensures

pub loop-t-preserved : goal.loop-t-preserved
loop-t-preserved c =
    let steps = c.step-in-loop-t.ensures.steps in
    let so_far = c.loop-t.invariant in
    let here : Steps c.loop-t.sim c.step-in-loop-t.new.self false (vector c.args.n c.loop-t.t) =
    subst (Steps c.loop-t.sim c.step-in-loop-t.new.self false) c.vector.ensures steps in
    let next : suc c.loop-t.t ≡ c.loop-t.t + 1 = omega arith in
    subst (λ k. Counting c.args.net.now c.args.n k c.step-in-loop-t.new.self c.with_row-counts-in-loop-t.result) next
    (one_more c.args.n c.loop-t.t c.loop-t.sim c.step-in-loop-t.new.self c.args.net.now c.loop-t.counts
    c.with_row-counts-in-loop-t.result (subst IsCircuit so_far.net_is steps.circuit) so_far
    (steps.net ∙ so_far.net_is)
    (c.simulation.ensures.later (entries c.args.n c.loop-t.t) (Vector (vector c.args.n c.loop-t.t)) c.loop-t.sim
    c.step-in-loop-t.new.self so_far.stands here)
    c.with_row-counts-in-loop-t.ensures)
