-- Marks that grow.
use Rattle.std.proofs.Common.{◌≡◌, ℕ, zero, suc, ◌+◌, ◌<◌, ◌⊎◌, inl, inr, Bool, true, false, List, [], ◌∷◌}
use Rattle.std.proofs.Common.{◌++◌, take, drop, length, Some, refl, sym, ap, ◌∙◌, subst, arith}
use Rattle.std.specs.Prelude.{slice_get, slice_index_or, replicate}
use Rattle.std.proofs.lemmas.Bool.{cases_lt, cases_eq, false≢true}
use Rattle.std.proofs.lemmas.Option.{same_Some, slice_get_within}
use Rattle.net_core.specs.declared.gate.Wire.{Wire}
use Rattle.net_core.specs.declared.gate.Wire.TheVariants.{Const, Reset, Input, Reg, Gate}
use Rattle.net_core.specs.declared.gate.Gate as gate
use Rattle.net_core.specs.Circuits.{IsThere}
use Rattle.net_tidy.specs.inner.Marks.{IsClosedOver, IsMarked, IsPinOf, IsReached, Marks, Passes}
use Rattle.net_tidy.specs.inner.Made.{AllFit}

pub marks_none : (marks : List Bool) (wires : List Wire) → Marks marks marks wires 0
marks_none marks wires = record {
  long = refl;
  all = λ k w low at. absurd (omega arith);
  keeps = λ w h. h;
  only = λ n h. inl h;
}

is_gate : (w : Wire) (n : ℕ) → (w ≡ Gate n) ⊎ (w ≡ Gate n → ⊥)
is_gate (Const b) n = inr (λ e. absurd (cc))
is_gate Reset n = inr (λ e. absurd (cc))
is_gate (Input m) n = inr (λ e. absurd (cc))
is_gate (Reg m) n = inr (λ e. absurd (cc))
is_gate (Gate m) n = elim (cases_eq m n) [
  | inl e ↦ inl (ap Gate e)
  | inr ne ↦ inr (λ e. ne (cc))
]

-- one wire more
pub marks_more : (first old new : List Bool) (wires : List Wire) (count : ℕ) (wire : Wire)
    → slice_get wires count ≡ Some wire → Marks first old wires count → length new ≡ length old → IsMarked new wire
    → ((n : ℕ) → (wire ≡ Gate n → ⊥) → slice_index_or new n true ≡ slice_index_or old n true)
    → Marks first new wires (count + 1)
marks_more first old new wires count wire at before long marked others = record {
  long = long ∙ before.long;
  all = λ k w low there. elim (cases_lt k count) [
    | inl lt ↦ kept w (before.all k w lt there)
    | inr ge ↦
        let same : k ≡ count = omega arith in
        let e : wire ≡ w = same_Some wire w (sym at ∙ (ap (slice_get wires) (sym same) ∙ there)) in
        subst (IsMarked new) e marked
  ];
  keeps = λ w h. kept w (before.keeps w h);
  only = λ n h. elim (is_gate wire n) [
    | inl e ↦ inr (record { at = count; below = omega arith; is = at ∙ ap Some e })
    | inr ne ↦ elim (before.only n (sym (others n ne) ∙ h)) [
      | inl old ↦ inl old
      | inr among ↦ inr (record { at = among.at; below = let low = among.below in omega (arith, low); is = among.is })
    ]
  ];
}
  where
    kept : (w : Wire) → IsMarked old w → IsMarked new w
    kept (Const b) h = tt
    kept Reset h = tt
    kept (Input n) h = tt
    kept (Reg n) h = tt
    kept (Gate n) h = elim (is_gate wire n) [
      | inl e ↦ subst (IsMarked new) e marked
      | inr ne ↦ others n ne ∙ h
    ]

pub passes_marked : (old new : List Bool) (n : ℕ) (pins wires : List Wire) → IsMarked old (Gate n) → wires ≡ pins
    → Marks old new wires (length wires) → Passes old new n pins
passes_marked old new n pins wires marked e marks =
    subst (Passes old new n) e (record {
      long = marks.long;
      closed = λ h k w at. marks.all k w (slice_get_within wires k w at) at;
      keeps = marks.keeps;
      only = λ m h. elim (marks.only m h) [ inl before ↦ inl before | inr among ↦ inr (marked, among) ];
    })

pub passes_unmarked : (old : List Bool) (n : ℕ) (pins : List Wire) → (IsMarked old (Gate n) → ⊥) → Passes old old n pins
passes_unmarked old n pins unmarked = record {
  long = refl;
  closed = λ h. absurd (unmarked h);
  keeps = λ w h. h;
  only = λ m h. inl h;
}

-- one gate more, from the last to the first
pub closed_more : (i r : ℕ) (gates : List gate.Gate) (old new : List Bool) (count n : ℕ) (g : gate.Gate)
    → AllFit i r gates → slice_get gates n ≡ Some g → n + count + 1 ≡ length gates → Passes old new n g.pins
    → IsClosedOver gates old count → IsClosedOver gates new (count + 1)
closed_more i r gates old new count n g fit at place passes before = record {
  each = λ m x late there marked. elim (passes.only m marked) [
    | inl was ↦ elim (cases_eq m n) [
      | inl e ↦
          let same : g ≡ x = same_Some g x (sym at ∙ (ap (slice_get gates) (sym e) ∙ there)) in
          λ k w pin.
          passes.closed (subst (λ j. IsMarked old (Gate j)) e was) k w
          (ap (λ (y : gate.Gate). slice_get y.pins k) same ∙ pin)
      | inr ne ↦ λ k w pin. passes.keeps w (before.each m x (omega (arith, late, place, ne)) there was k w pin)
    ]
    | inr (was, among) ↦
        let low : IsThere i r n (Gate m) = (fit.each n g at).there.each among.at (Gate m) among.is in
        absurd (omega (arith, low, late, place))
  ];
}

pub pin_more : (gates : List gate.Gate) (first old new : List Bool) (n : ℕ) (g : gate.Gate) → slice_get gates n ≡ Some g
    → Passes old new n g.pins
    → ((m : ℕ) → IsMarked old (Gate m) → IsMarked first (Gate m) ⊎ IsPinOf gates old m) → (m : ℕ)
    → IsMarked new (Gate m) → IsMarked first (Gate m) ⊎ IsPinOf gates new m
pin_more gates first old new n g at passes before m h = elim (passes.only m h) [
  | inl was ↦ elim (before m was) [
    | inl early ↦ inl early
    | inr pin ↦ inr (record {
      reader = pin.reader;
      gate = pin.gate;
      at = pin.at;
      marked = passes.keeps (Gate pin.reader) pin.marked;
      among = pin.among;
    })
  ]
  | inr (was, among) ↦ inr (record {
    reader = n;
    gate = g;
    at = at;
    marked = passes.keeps (Gate n) was;
    among = among;
  })
]

none_marked : (count n : ℕ) → n < count → slice_index_or (replicate count false) n true ≡ true → ⊥
none_marked zero n low e = absurd (omega arith)
none_marked (suc count) zero low e = absurd (false≢true e)
none_marked (suc count) (suc n) low e = none_marked count n (omega arith) e

pub reached_only : (gates : List gate.Gate) (old new : List Bool) (shown next : List Wire)
    → old ≡ replicate (length gates) false
    → ((n : ℕ) → IsMarked new (Gate n) → IsMarked old (Gate n) ⊎ IsReached gates new shown next n) → (n : ℕ)
    → n < length gates → IsMarked new (Gate n) → IsReached gates new shown next n
reached_only gates old new shown next e only n low h = elim (only n h) [
  | inl was ↦ absurd (none_marked (length gates) n low (subst (λ l. IsMarked l (Gate n)) e was))
  | inr found ↦ found
]

take_front : (xs ys : List Bool) → take (length xs) (xs ++ ys) ≡ xs
take_front [] ys = refl
take_front (x ∷ xs) ys = ap (λ (l : List Bool). x ∷ l) (take_front xs ys)

pub written_whole : (new items : List Bool) (len : ℕ) → length new ≡ len
    → take len (new ++ drop (length new) items) ≡ new
written_whole new items len e =
    subst (λ n. take n (new ++ drop (length new) items) ≡ new) e (take_front new (drop (length new) items))
