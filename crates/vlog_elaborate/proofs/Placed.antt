-- The places of gates in the order.
use Rattle.std.proofs.Common.{◌≡◌, ℕ, zero, suc, ◌+◌, ◌<◌, ◌≤◌, inl, inr, cond, List, []}
use Rattle.std.proofs.Common.{◌∷◌, length, Some, None, get_or}
use Rattle.std.proofs.Common.{refl, sym, ap, ◌∙◌, arith}
use Rattle.std.specs.Prelude.{slice_get, slice_index, nat_eq, unwrap_or}
use Rattle.std.specs.List.{position_from}
use Rattle.std.proofs.lemmas.Bool.{ne_eqb, cases_lt}
use Rattle.std.proofs.lemmas.List.{length-map}
use Rattle.vlog_text.specs.declared.raw.RawNetlist.{RawNetlist}
use Rattle.vlog_text.specs.Orders.{place_in}
use Rattle.vlog_text.specs.Standing.{resolved, text_gates, the_order}
use Rattle.vlog_elaborate.proofs.TextGates.{order_below}
use Rattle.vlog_elaborate.proofs.Wired.{order_short}
use Rattle.vlog_elaborate.specs.inner.Parts.{ArePlaces}

-- ---- how long the order is

pub order_few : (raw : RawNetlist) (order : List ℕ) → order ≡ the_order raw → length order ≤ length raw.gates
order_few raw order e =
    omega (
      arith,
      ap length e,
      order_short (text_gates raw) (length (text_gates raw)) [],
      length-map raw.gates (resolved raw),
    )

-- ---- what is in it

pub in_order : (raw : RawNetlist) (order : List ℕ) → order ≡ the_order raw
    → (i n : ℕ) → slice_get order i ≡ Some n → n < length raw.gates
in_order raw order e i n at =
    omega (
      arith,
      order_below (text_gates raw) order e i n at,
      length-map raw.gates (resolved raw),
    )

absent : (n count k : ℕ) (order : List ℕ) → ((i m : ℕ) → slice_get order i ≡ Some m → m < count) → count ≤ n
    → position_from (nat_eq n) k order ≡ None
absent n count k [] below past = refl
absent n count k (x ∷ xs) below past =
    let here = below zero x refl in
    ap (λ b. cond b (Some k) (position_from (nat_eq n) (k + 1) xs)) (ne_eqb n x (λ e. omega arith))
    ∙ absent n count (k + 1) xs (λ i m e. below (suc i) m e) past

past_end : (xs : List ℕ) (n : ℕ) → length xs ≤ n → get_or xs n 0 ≡ 0
past_end [] n h = refl
past_end (x ∷ xs) zero h = absurd (omega arith)
past_end (x ∷ xs) (suc n) h = past_end xs n (omega arith)

pub are_places : (raw : RawNetlist) (count : ℕ) (order places : List ℕ) → order ≡ the_order raw
    → count ≡ length raw.gates → length places ≡ count
    → ((n : ℕ) → n < count → slice_index places n ≡ place_in order n) → ArePlaces raw places
are_places raw count order places e all long placed = record {
  each = λ n. elim (cases_lt n count) [
    | inl h ↦ placed n h ∙ ap (λ o. place_in o n) e
    | inr h ↦
        past_end places n (omega arith)
        ∙ sym (ap (λ o. unwrap_or o 0)
        (absent n count 0 order (λ i m at. omega (arith, in_order raw order e i m at)) h))
        ∙ ap (λ o. place_in o n) e
  ];
}
