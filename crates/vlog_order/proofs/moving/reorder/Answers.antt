use Rattle.std.proofs.Common.{◌≡◌, ◌<◌, ◌++◌, ◌∷◌, [], ℕ, ap, ◌∙◌, refl, arith, length, get_or, List}
use Rattle.std.specs.Prelude.{slice_index}
use Rattle.std.proofs.lemmas.Option.{slice_get_read, slice_get-get_or}
use Rattle.vlog_text.specs.Orders.{place_in, moved}
use Rattle.vlog_order.proofs.Placing.{moved_same, moved_more}
use Rattle.vlog_order.proofs.moving.reorder.Goals as goal

pub loop-gate-preserved : goal.loop-gate-preserved
loop-gate-preserved c =
    let k = c.loop-gate.gate-index in
    let n = get_or c.args.order.now k 0 in
    let x = c.index-gates-gate.result in
    let at_k = slice_get-get_or c.args.order.now k 0 (omega arith) in
    let within : n < length c.args.gates.now = c.requires.there k n at_k in
    let at = slice_get_read c.args.gates.now _ n x refl within c.index-gates-gate.is in
    let next : c.in_ok-next.next ≡ moved (place_in c.args.order.now) x =
    c.in_ok-next.ensures
    ∙ ap (λ (places : List ℕ). moved (slice_index places) x) c.deref.ensures.value
    ∙ moved_same (slice_index c.in_ok-places.places.items) (place_in c.args.order.now)
    (length c.args.gates.now) x c.in_ok-places.ensures.places
    (record { each = λ i m e. c.requires.named.each n x i m at e }) in
    c.in_ok-push.ensures.ok ∙ ap (λ xs. xs ++ c.in_ok-next.next ∷ []) c.loop-gate.invariant
    ∙ moved_more c.args.gates.now (place_in c.args.order.now) c.args.order.now k n x c.in_ok-next.next
    (omega arith) refl at next
