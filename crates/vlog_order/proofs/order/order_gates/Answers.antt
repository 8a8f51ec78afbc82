use Rattle.std.proofs.Common.{◌≡◌, ◌+◌, List, Bool, true, ℕ, length, sym, ap, ◌∙◌, subst}
use Rattle.std.proofs.Common.{arith, set}
use Rattle.std.proofs.Common.{length-set, drop, false}
use Rattle.std.proofs.lemmas.Option.{slice_get_within}
use Rattle.vlog_order.specs.inner.Queues.{marked, IsQueue}
use Rattle.vlog_order.proofs.Ordering.{Ordered, ordered_whole, ordered_all, ordered_more, refilled, none_left}
use Rattle.vlog_order.proofs.order.order_gates.Goals as goal

pub returns-in_default : goal.returns-in_default
returns-in_default c =
    ordered_whole c.args.gates.now c.loop.taken.items c.loop.ready c.loop.waiting c.loop.order.items c.loop.counter
    c.loop.invariant (omega arith)
    (none_left c.loop.ready.keys c.in_default.ensures.variant.1)

pub returns : goal.returns
returns c =
    ordered_all c.args.gates.now c.loop.taken.items c.loop.ready c.loop.waiting c.loop.order.items c.loop.counter
    c.loop.invariant (omega arith)

pub loop-preserved : goal.loop-preserved
loop-preserved c =
    let gate = c.in-Some.gate in
    let v = c.deref_mut.ensures.value in
    let t : c.take.new.taken ≡ set c.loop.taken.items gate true
    = c.take.ensures.taken ∙ ap (λ (bits : List Bool). set bits gate true) v in
    let r = c.loop.invariant.queue.ready_are gate c.in-Some.ensures.member in
    let within = slice_get_within c.args.gates.now gate r.gate r.there in
    let long : length c.take.new.taken ≡ c.loop.taken.len
    = ap length t ∙ length-set c.loop.taken.items gate true ∙ sym c.loop.taken.ok.0 in
    let whole = refilled c.take.new.taken (drop (length c.take.new.taken) c.loop.taken.items) c.loop.taken.len long
    ∙ t in
    let queue = subst (λ (bits : List Bool). IsQueue c.args.gates.now (marked bits) c.take.new.ready c.take.new.waiting
    (λ n. false)) t c.in_ok-take.ensures.queue in
    let next = ordered_more c.args.gates.now c.loop.taken.items c.loop.ready c.take.new.ready c.loop.waiting
    c.take.new.waiting c.loop.order.items c.loop.counter gate c.loop.invariant
    c.in-Some.ensures.member c.in-Some.ensures.least (omega (arith, within, c.loop.invariant.long)) queue in
    subst (λ (bits : List Bool). Ordered c.args.gates.now bits c.take.new.ready c.take.new.waiting c.push.new.self.items
    (c.loop.counter + 1)) (sym whole)
    (subst (λ (o : List ℕ). Ordered c.args.gates.now
    (set c.loop.taken.items gate true) c.take.new.ready c.take.new.waiting o
    (c.loop.counter + 1)) (sym c.in_ok-push.ensures.items) next)
