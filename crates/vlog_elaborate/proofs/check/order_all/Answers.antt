use Rattle.std.proofs.Common.{◌≡◌, ℕ, List, None, Some, length, map, ap, ◌∙◌, subst, arith}
use Rattle.std.specs.Prelude.{slice_get}
use Rattle.std.proofs.lemmas.List.{length-map}
use Rattle.vlog_text.specs.declared.raw.RawGate.{RawGate}
use Rattle.vlog_text.specs.Standing.{resolved, the_order}
use Rattle.vlog_text.specs.Refusing.{earliest, refusals, left_out}
use Rattle.vlog_names.specs.Numbers.{capped_gate}
use Rattle.vlog_elaborate.proofs.check.order_all.Goals as goal

pub gates-requires : goal.gates-requires
gates-requires c = c.requires.numbers.few

pub check_order-requires : goal.check_order-requires
check_order-requires c = λ i n e.
    let there = c.in_ok-order.ensures.there i n
    (subst (λ (xs : List ℕ). slice_get xs i ≡ Some n) c.deref.ensures.value e) in
    let same = ap length c.as_slice-2.ensures in
    let made = ap length (c.in_ok-gates.ensures c.args.raw.now c.requires.numbers) in
    let long = length-map c.as_slice.result.now (λ (g : RawGate). capped_gate (resolved c.args.raw.now g)) in
    omega (arith, there, same, made, long, ap length c.as_slice.ensures, ap length c.as_slice-3.ensures)

pub returns-clause-gates : goal.returns-clause-gates
returns-clause-gates c =
    c.in_ok-gates.ensures c.args.raw.now c.requires.numbers
    ∙ ap (λ (gs : List RawGate). map (λ (g : RawGate). capped_gate (resolved c.args.raw.now g)) gs) c.as_slice.ensures

pub returns-clause-late : goal.returns-clause-late
returns-clause-late c =
    let raw = c.args.raw.now in
    c.in_ok-late.ensures
    ∙ ap (λ (order : List ℕ). earliest None (refusals 6 (left_out order 0 c.as_slice-3.result.now)))
    (c.deref.ensures.value ∙ c.in_ok-order.ensures.order)
    ∙ ap (λ (gs : List RawGate). earliest None (refusals 6 (left_out (the_order raw) 0 gs))) c.as_slice-3.ensures
