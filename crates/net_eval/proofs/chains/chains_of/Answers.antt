use Rattle.std.proofs.Common.{◌≡◌, ◌-◌, List, length, drop, refl, sym, ap, subst, ◌∙◌, arith}
use Rattle.std.proofs.lemmas.Option.{slice_get_read}
use Rattle.net_core.specs.declared.gate.Wire.{Wire}
use Rattle.net_core.specs.declared.gate.Gate as gate
use Rattle.net_core.specs.Circuits.{AllThere}
use Rattle.net_eval.specs.Readers.{readers_from}
use Rattle.net_eval.proofs.Assigning.{all_there_more}
use Rattle.net_eval.proofs.Chaining.{fresh_next, holds_same, number_below, readers_next}
use Rattle.net_eval.proofs.chains.chains_of.Goals as goal

pub add_gate-requires-clause-there : goal.add_gate-requires-clause-there
add_gate-requires-clause-there c = λ j w e.
    let net = c.args.net.now in
    let n = length net - 1 - c.loop-done.done in
    let x = c.index-net-n.result in
    let at = slice_get_read net _ n x refl (omega arith) c.index-net-n.is in
    let pins : c.as_slice.result.now ≡ x.pins =
    c.as_slice.ensures ∙ ap (λ (y : gate.Gate). y.pins) (sym c.index-net-n.is) in
    let all : AllThere 64 c.args.registers (length net) c.as_slice.result.now =
    subst (λ (ps : List Wire). AllThere 64 c.args.registers (length net) ps) (sym pins)
    (all_there_more 64 c.args.registers n (length net) x.pins (omega arith) (c.requires.ordered.earlier n x at)) in
    let low = number_below c.args.registers (length net) w (all.each j w e) in
    let size = c.loop-done.invariant.heads in
    omega arith

pub loop-done-preserved : goal.loop-done-preserved
loop-done-preserved c =
    let net = c.args.net.now in
    let n = length net - 1 - c.loop-done.done in
    let x = c.index-net-n.result in
    let at = slice_get_read net _ n x refl (omega arith) c.index-net-n.is in
    let pins : c.as_slice.result.now ≡ x.pins =
    c.as_slice.ensures ∙ ap (λ (y : gate.Gate). y.pins) (sym c.index-net-n.is) in
    let all : AllThere 64 c.args.registers (length net) c.as_slice.result.now =
    subst (λ (ps : List Wire). AllThere 64 c.args.registers (length net) ps) (sym pins)
    (all_there_more 64 c.args.registers n (length net) x.pins (omega arith) (c.requires.ordered.earlier n x at)) in
    holds_same c.add_gate.new.chains c.args.registers (length net) _ _
    (λ w.
    readers_next net n (length net - c.loop-done.done) _ x c.as_slice.result.now w (omega arith) (omega arith) at pins)
    (c.in_ok-add_gate.ensures.holds (length net)
    (λ w. readers_from (length net - c.loop-done.done) (drop (length net - c.loop-done.done) net) w) all
    (λ w. fresh_next net n (length net - c.loop-done.done) w (omega arith)) c.loop-done.invariant)
