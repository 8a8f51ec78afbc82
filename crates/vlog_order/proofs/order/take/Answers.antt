use Rattle.std.proofs.Common.{◌≡◌, List, [], Some, sym, ◌∙◌, subst, arith, set, true}
use Rattle.std.specs.Prelude.{slice_get, slice_index_or}
use Rattle.std.proofs.lemmas.Option.{slice_get_within}
use Rattle.vlog_order.specs.declared.waiting.Waiter.{Waiter}
use Rattle.vlog_order.specs.inner.Queues.{marked, IsQueue, wakes}
use Rattle.vlog_order.proofs.Steps.{popped, woken_are}
use Rattle.vlog_order.proofs.Waking.{marks_set}
use Rattle.vlog_order.proofs.order.take.Goals as goal

pub settle_all-requires-clause-waiters : goal.settle_all-requires-clause-waiters
settle_all-requires-clause-waiters c = λ i w at.
    let p = c.requires.popped in
    let r = p.queue.ready_are c.args.gate p.was_in in
    let within = slice_get_within c.args.gates.now c.args.gate r.gate r.there in
    let e = c.deref.ensures.value ∙ c.take-woken.ensures.woken in
    woken_are c.args.gates.now (marked c.args.taken.now) (marked (set c.args.taken.now c.args.gate true)) p.before
    c.args.ready.now c.args.waiting.now c.args.gate p.queue p.was_in p.update
    (marks_set c.args.taken.now c.args.gate (omega (arith, within, c.requires.marks))) w
    (record { place = i; is = subst (λ (xs : List Waiter). slice_get xs i ≡ Some w) e at })

pub settle_all-requires-clause-queue : goal.settle_all-requires-clause-queue
settle_all-requires-clause-queue c =
    let p = c.requires.popped in
    let r = p.queue.ready_are c.args.gate p.was_in in
    let within = slice_get_within c.args.gates.now c.args.gate r.gate r.there in
    let e = c.deref.ensures.value ∙ c.take-woken.ensures.woken in
    let taken = marked (set c.args.taken.now c.args.gate true) in
    subst (λ (xs : List Waiter). IsQueue c.args.gates.now taken c.args.ready.now c.take-woken.new.self (wakes xs))
    (sym e)
    (subst (λ (ws : List (List Waiter)). IsQueue c.args.gates.now taken c.args.ready.now ws
    (wakes (slice_index_or c.args.waiting.now c.args.gate []))) (sym c.take-woken.ensures.others)
    (popped c.args.gates.now
    (marked c.args.taken.now) taken p.before c.args.ready.now c.args.waiting.now c.args.gate p.queue p.was_in p.update
    (marks_set c.args.taken.now c.args.gate (omega (arith, within, c.requires.marks)))))
