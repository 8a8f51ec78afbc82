-- Gates whose pins name earlier gates stand in order as they stood.
use Rattle.std.proofs.Common.{◌≡◌, ℕ, zero, suc, ◌+◌, ◌-◌, ◌<◌, ◌≤◌, inl, inr, Bool, true, false, not, ◌&&◌, cond, List}
use Rattle.std.proofs.Common.{[], ◌∷◌, ◌++◌, length, map, Some, refl, ap, ◌∙◌, arith}
use Rattle.std.specs.Prelude.{slice_get, nat_eq, ◌||◌, unwrap_or}
use Rattle.std.specs.List.{position_from, filter_map, range_with_len, cons_option}
use Rattle.std.specs.Option.{option_map}
use Rattle.std.proofs.lemmas.Bool.{ne_eqb, eq-eqb, cases_eq, or_left, or_right, and_from}
use Rattle.std.proofs.lemmas.Option.{slice_get_within}
use Rattle.net_core.specs.declared.gate.Wire.{Wire}
use Rattle.net_core.specs.declared.gate.Wire.TheVariants as wire
use Rattle.net_core.specs.declared.gate.Gate as gate
use Rattle.net_core.specs.Circuits.{IsThere}
use Rattle.vlog_text.specs.declared.raw.RawGate.{RawGate}
use Rattle.vlog_text.specs.Orders.{is_among, is_settled, all_settled, first_from, then_on, order_from, order_of}
use Rattle.vlog_text.specs.Orders.{place_in, renumbered, moved, reordered}
use Rattle.vlog_text.specs.Refusing.{item_target, left_out}
use Rattle.vlog_text.proofs.OrderLemmas.{AreEarlier, some_at, settled_all, some_from}

among_range : (a n m : ℕ) → a ≤ m → m < a + n → is_among (range_with_len a n) m ≡ true
among_range a zero m low high = absurd (omega arith)
among_range a (suc n) m low high = elim (cases_eq m a) [
  | inl e ↦ or_left (nat_eq m a) (is_among (range_with_len (a + 1) n) m) (eq-eqb m a e)
  | inr ne ↦ or_right (nat_eq m a) (is_among (range_with_len (a + 1) n) m)
      (among_range (a + 1) n m (omega arith) (omega arith))
]

pub none_left_out : (most n : ℕ) (gs : List RawGate) → n + length gs ≤ most
    → left_out (range_with_len 0 most) n gs ≡ []
none_left_out most n [] h = refl
none_left_out most n (g ∷ gs) h =
    let among : is_among (range_with_len 0 most) n ≡ true = among_range 0 most n (omega arith) (omega arith) in
    ap (λ b. cond b (left_out (range_with_len 0 most) (suc n) gs) (item_target (g ∷ gs))) among
    ∙ none_left_out most (suc n) gs (omega arith)

place_from : (k a n m : ℕ) → a ≤ m → m < a + n
    → unwrap_or (position_from (nat_eq m) k (range_with_len a n)) 0 ≡ k + (m - a)
place_from k a zero m low high = absurd (omega arith)
place_from k a (suc n) m low high = elim (cases_eq m a) [
  | inl e ↦ ap (λ b. unwrap_or (cond b (Some k) (position_from (nat_eq m) (k + 1) (range_with_len (a + 1) n))) 0)
      (eq-eqb m a e) ∙ omega arith
  | inr ne ↦ ap (λ b. unwrap_or (cond b (Some k) (position_from (nat_eq m) (k + 1) (range_with_len (a + 1) n))) 0)
      (ne_eqb m a ne) ∙ (place_from (k + 1) (a + 1) n m (omega arith) (omega arith) ∙ omega arith)
]

pub same_place : (most m : ℕ) → m < most → place_in (range_with_len 0 most) m ≡ m
same_place most m h = place_from 0 0 most m (omega arith) (omega arith) ∙ omega arith

pub same_wire : (inputs registers gates : ℕ) (w : Wire) → IsThere inputs registers gates w
    → renumbered (place_in (range_with_len 0 gates)) w ≡ w
same_wire inputs registers gates (wire.Const b) h = refl
same_wire inputs registers gates wire.Reset h = refl
same_wire inputs registers gates (wire.Input n) h = refl
same_wire inputs registers gates (wire.Reg n) h = refl
same_wire inputs registers gates (wire.Gate n) h = ap wire.Gate (same_place gates n h)

range_more : (a n : ℕ) → range_with_len a n ++ (a + n) ∷ [] ≡ range_with_len a (suc n)
range_more a zero = ap (λ m. m ∷ []) (omega arith)
range_more a (suc n) =
    ap (λ xs. a ∷ xs) (ap (λ m. range_with_len (a + 1) n ++ m ∷ []) (omega arith) ∙ range_more (a + 1) n)

past_range : (a n m : ℕ) → a + n ≤ m → is_among (range_with_len a n) m ≡ false
past_range a zero m high = refl
past_range a (suc n) m high =
    let ne : m ≡ a → ⊥ = omega arith in
    ap (λ b. b || is_among (range_with_len (a + 1) n) m) (ne_eqb m a ne) ∙ past_range (a + 1) n m (omega arith)

module _ (gates : List gate.Gate) (earlier : AreEarlier gates) where
  -- gate k is the next after those before it
  next_is : (k : ℕ) → k < length gates → first_from (is_among (range_with_len zero k)) zero gates ≡ Some k
  next_is k within =
      let g = some_at gates k within in
      some_from taken zero gates k g.0 g.1
      (and_from (not (taken (zero + k))) (all_settled taken g.0.pins)
      (ap not (past_range zero k (zero + k) (omega arith)))
      (settled_all taken g.0.pins (λ i w e. settled g.0 g.1 i w e)))
      (λ j x below at. ap (λ b. not b && all_settled taken x.pins)
      (among_range zero k (zero + j) (omega arith) (omega arith)))
      ∙ ap (λ m. Some m) (omega arith)
    where
      taken : ℕ → Bool
      taken = is_among (range_with_len zero k)

      settled : (x : gate.Gate) → slice_get gates k ≡ Some x → (i : ℕ) (w : Wire) → slice_get x.pins i ≡ Some w
          → is_settled taken w ≡ true
      settled x at i (wire.Const b) e = refl
      settled x at i wire.Reset e = refl
      settled x at i (wire.Input n) e = refl
      settled x at i (wire.Reg n) e = refl
      settled x at i (wire.Gate n) e =
          let before = earlier.each k x i n at e in among_range zero k n (omega arith) (omega arith)

  keeps_from : (left k : ℕ) → k + left ≡ length gates
      → order_from gates left (range_with_len zero k) ≡ range_with_len zero (length gates)
  keeps_from zero k e = ap (λ n. range_with_len zero n) (omega arith)
  keeps_from (suc left) k e =
      ap (λ o. then_on o (range_with_len zero k) (λ n. order_from gates left (range_with_len zero k ++ n ∷ [])))
      (next_is k (omega arith))
      ∙ ap (λ m. order_from gates left (range_with_len zero k ++ m ∷ [])) (omega arith)
      ∙ ap (λ xs. order_from gates left xs) (range_more zero k)
      ∙ keeps_from left (suc k) (omega arith)

  pub keeps_order : order_of gates ≡ range_with_len zero (length gates)
  keeps_order = keeps_from (length gates) zero (omega arith)

-- pins that name gates below a number keep their numbers
pin_kept : (most : ℕ) (w : Wire) → ((m : ℕ) → w ≡ wire.Gate m → m < most)
    → renumbered (place_in (range_with_len 0 most)) w ≡ w
pin_kept most (wire.Const b) h = refl
pin_kept most wire.Reset h = refl
pin_kept most (wire.Input n) h = refl
pin_kept most (wire.Reg n) h = refl
pin_kept most (wire.Gate n) h = ap wire.Gate (same_place most n (h n refl))

pins_kept : (most : ℕ) (ws : List Wire) → ((i m : ℕ) → slice_get ws i ≡ Some (wire.Gate m) → m < most)
    → map (renumbered (place_in (range_with_len 0 most))) ws ≡ ws
pins_kept most [] h = refl
pins_kept most (w ∷ ws) h =
    ap (λ x. x ∷ map (renumbered (place_in (range_with_len 0 most))) ws)
    (pin_kept most w (λ m e. h zero m (ap (λ v. Some v) e)))
    ∙ ap (λ xs. w ∷ xs) (pins_kept most ws (λ i m e. h (suc i) m e))

-- the gates from place a on come to stand as they stood
kept_from : (gates : List gate.Gate) (place : ℕ → ℕ) (a : ℕ) (rest : List gate.Gate)
    → ((i : ℕ) → slice_get gates (a + i) ≡ slice_get rest i)
    → ((n : ℕ) (g : gate.Gate) → slice_get gates n ≡ Some g → moved place g ≡ g)
    → filter_map (λ n. option_map (moved place) (slice_get gates n)) (range_with_len a (length rest)) ≡ rest
kept_from gates place a [] same kept = refl
kept_from gates place a (g ∷ rest) same kept =
    let here : slice_get gates a ≡ Some g = ap (λ n. slice_get gates n) (omega arith) ∙ same zero in
    ap (λ o. cons_option (option_map (moved place) o)
    (filter_map (λ n. option_map (moved place) (slice_get gates n)) (range_with_len (a + 1) (length rest)))) here
    ∙ ap (λ y. y ∷ filter_map (λ n. option_map (moved place) (slice_get gates n))
    (range_with_len (a + 1) (length rest))) (kept a g here)
    ∙ ap (λ ys. g ∷ ys)
    (kept_from gates place (a + 1) rest (λ i. ap (λ n. slice_get gates n) (omega arith) ∙ same (suc i)) kept)

pub keeps_gates : (gates : List gate.Gate) → AreEarlier gates → reordered gates (order_of gates) ≡ gates
keeps_gates gates earlier =
    ap (λ order. reordered gates order) (keeps_order gates earlier)
    ∙ kept_from gates place zero gates (λ i. ap (λ n. slice_get gates n) (omega arith)) stays
  where
    place : ℕ → ℕ
    place = place_in (range_with_len 0 (length gates))

    stays : (n : ℕ) (g : gate.Gate) → slice_get gates n ≡ Some g → moved place g ≡ g
    stays n g at =
        let within = slice_get_within gates n g at in
        ap (λ (pins : List Wire). let new : gate.Gate = record { kind = g.kind; pins = pins } in new)
        (pins_kept (length gates) g.pins
        (λ i m e. let before = earlier.each n g i m at e in omega arith))
