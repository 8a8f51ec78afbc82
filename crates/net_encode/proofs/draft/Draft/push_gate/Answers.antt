use Rattle.std.proofs.Common.{[], subst, sym, arith}
use Rattle.net_core.specs.Circuits.{Circuit, circuit_of, FitsIn}
use Rattle.net_core.proofs.Invariant.{circuit_with_gate}
use Rattle.net_encode.specs.inner.Drafts.{unbound}
use Rattle.net_encode.proofs.draft.Draft.push_gate.Goals as goal

pub invariant_of-self-2 : goal.invariant_of-self-2
invariant_of-self-2 c =
    let inside = circuit_of c.self.inside.inputs c.self.inside.gates (unbound c.self.inside.regs) [] in
    let fits = subst (λ (x : Circuit). FitsIn x c.args.gate) (sym c.self.view_is) c.requires in
    rw c.in_ok-push.ensures.ok (circuit_with_gate inside c.args.gate c.self.invariant fits (omega arith))
