use Rattle.std.proofs.Common.{◌≡◌, ℕ, length, Some, refl, sym, ap, ◌∙◌, subst, arith, List}
use Rattle.std.specs.Prelude.{slice_get}
use Rattle.std.proofs.lemmas.Option.{same_Some, slice_get_read, slice_get_within}
use Rattle.net_core.specs.declared.gate.Wire.{Wire}
use Rattle.net_core.specs.declared.gate.Wire.TheVariants.{Gate}
use Rattle.net_core.specs.declared.gate as netlist
use Rattle.vlog_order.specs.inner.Queues.{marked, SettledBetween, IsQueue, without}
use Rattle.vlog_order.proofs.Steps.{now_ready, now_waits}
use Rattle.vlog_order.proofs.order.settle.Goals as goal

-- two readings of one gate
pins_same : (gates : List netlist.Gate.Gate) (n : ℕ) (a b : netlist.Gate.Gate) (pins : List Wire)
    → slice_get gates n ≡ Some a → slice_get gates n ≡ Some b → pins ≡ b.pins → pins ≡ a.pins
pins_same gates n a b pins p q e = e ∙ ap (λ (g : netlist.Gate.Gate). g.pins) (same_Some b a (sym q ∙ p))

pub returns-in_ok-insert-in-None : goal.returns-in_ok-insert-in-None
returns-in_ok-insert-in-None c = λ pending q.
    let w = c.requires.waiter in
    let within = slice_get_within c.args.gates.now c.args.waiter.gate w.gate w.there in
    let at = slice_get_read c.args.gates.now _ c.args.waiter.gate c.index-gates-waiter.result refl within
    c.index-gates-waiter.is in
    let e = pins_same c.args.gates.now c.args.waiter.gate w.gate c.index-gates-waiter.result c.as_slice-pins.result.now
    w.there at (c.as_slice-pins.ensures ∙ ap (λ (g : netlist.Gate.Gate). g.pins) (sym c.index-gates-waiter.is)) in
    now_ready c.args.gates.now (marked c.args.taken.now) c.args.ready.now c.insert.new.self c.args.waiting.now pending
    c.args.waiter q w
    (subst (λ (pins : List Wire). SettledBetween (marked c.args.taken.now) pins c.args.waiter.pin
    (length pins)) e c.in-None.ensures.none)
    c.in_ok-insert-in-None.ensures.updates

pub returns-in_ok-push-in-Some : goal.returns-in_ok-push-in-Some
returns-in_ok-push-in-Some c = λ pending q.
    let w = c.requires.waiter in
    let within = slice_get_within c.args.gates.now c.args.waiter.gate w.gate w.there in
    let at = slice_get_read c.args.gates.now _ c.args.waiter.gate c.index-gates-waiter.result refl within
    c.index-gates-waiter.is in
    let e = pins_same c.args.gates.now c.args.waiter.gate w.gate c.index-gates-waiter.result c.as_slice-pins.result.now
    w.there at (c.as_slice-pins.ensures ∙ ap (λ (g : netlist.Gate.Gate). g.pins) (sym c.index-gates-waiter.is)) in
    let found = c.in-Some.found in
    let pin = subst (λ (pins : List Wire). slice_get pins found.pin ≡ Some (Gate found.gate)) e c.in-Some.ensures.pin in
    let before =
    subst (λ (pins : List Wire). SettledBetween (marked c.args.taken.now) pins c.args.waiter.pin found.pin) e
    c.in-Some.ensures.before in
    subst (λ waiting. IsQueue c.args.gates.now (marked c.args.taken.now) c.args.ready.now waiting
    (without pending c.args.waiter.gate)) (sym c.in_ok-push-in-Some.ensures)
    (now_waits c.args.gates.now
    (marked c.args.taken.now) c.args.ready.now c.args.ready.now c.args.waiting.now pending c.args.waiter q w
    c.in-Some.found.pin c.in-Some.found.gate pin c.in-Some.ensures.free before
    (let named = c.requires.named.each c.args.waiter.gate w.gate c.in-Some.found.pin c.in-Some.found.gate w.there
    pin in omega (arith, named, c.requires.lists)))
