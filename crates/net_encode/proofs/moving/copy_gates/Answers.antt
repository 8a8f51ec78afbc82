use Rattle.std.proofs.Common.{◌≡◌, ◌∙◌, ap, sym, length, subst}
use Rattle.net_core.specs.Circuits.{FitsIn}
use Rattle.net_core.specs.declared.gate.Gate as gate
use Rattle.net_encode.specs.inner.Moves.{gate_moved}
use Rattle.net_encode.proofs.Copying.{all_read_below, next_fits}
use Rattle.net_encode.proofs.Decoding.{get_it}
use Rattle.std.proofs.Common.{Some}
use Rattle.net_encode.proofs.moving.copy_gates.Goals as goal

pub moved_gate-requires-clause-there : goal.moved_gate-requires-clause-there
moved_gate-requires-clause-there c =
    let g = c.index-gates-n.result in
    all_read_below (length c.args.draft.now.inputs) (length c.args.table.now) c.loop-n.n g.pins
    (c.requires.fit.each c.loop-n.n g
    (get_it c.args.gates.now c.loop-n.n g c.loop-n-test.true ∙ ap Some (sym c.index-gates-n.is))).there

pub push_gate-requires : goal.push_gate-requires
push_gate-requires c =
    let g = c.index-gates-n.result in
    let table = c.args.table.now in
    let first = c.args.draft.now in
    let made : c.in_ok-gate.gate ≡ gate_moved table (length first.gates) g =
    c.in_ok-gate.ensures ∙ ap (λ n. gate_moved table n g) c.gates-offset.ensures.count in
    subst (λ (x : gate.Gate). FitsIn c.loop-n.draft x)
    (sym (made ∙ ap (gate_moved table (length first.gates)) c.index-gates-n.is))
    (next_fits first c.loop-n.draft table c.args.gates.now c.loop-n.n g c.requires.table c.requires.fit
    c.loop-n-test.true (rw (← c.gates-offset.ensures.count) c.loop-n.invariant))
