use Rattle.std.proofs.Common.{◌≡◌, length, ap, ◌∙◌, arith}
use Rattle.net_eval.proofs.Assigning.{wires_at}
use Rattle.net_eval.proofs.sim.Sim.step.Goals as goal

pub clock-requires-clause-there : goal.clock-requires-clause-there
clock-requires-clause-there c =
    let r : length c.deref.result.now ≡ length c.self.inside.net.registers =
    ap (λ xs. length xs) c.deref.ensures.value ∙ c.self.invariant.registers_long in
    let kept = c.settle_row-self-inside.auto.gates in
    let shown = ap (λ xs. length xs) c.deref-3.ensures.value in
    let held = ap (λ xs. length xs) c.deref_mut-2.ensures.value in
    let g : length c.deref-3.result.now ≡ length c.self.inside.net.gates =
    omega (arith, kept, shown, held, c.self.invariant.gates_long) in
    wires_at c.self.inside.net _ _ _ c.self.invariant.circuit r g c.registers.ensures
