use Rattle.std.proofs.Common.{◌<◌, ℕ, Bool, List, length, sym, subst, ◌∙◌}
use Rattle.net_core.specs.declared.gate.Wire.TheVariants.{Gate}
use Rattle.net_tidy.specs.inner.Marks.{IsMarked, IsReached}
use Rattle.net_tidy.proofs.Marking.{reached_only, written_whole}
use Rattle.net_tidy.proofs.mark.reached.Goals as goal

pub returns-clause-reached : goal.returns-clause-reached
returns-clause-reached c =
    let gates = c.args.gates.now in
    let new = c.mark_reached.new.marks in
    subst (λ (ms : List Bool). (n : ℕ) → n < length gates → IsMarked ms (Gate n)
    → IsReached gates ms c.args.shown.now c.args.next.now n)
    (sym (written_whole new c.in_ok-marks.marks.items c.in_ok-marks.marks.len
    (c.mark_reached.ensures.long ∙ c.deref_mut.ensures.len)))
    (reached_only gates c.deref_mut.result.now new c.args.shown.now c.args.next.now
    (c.deref_mut.ensures.value ∙ c.in_ok-marks.ensures) c.mark_reached.ensures.only)
