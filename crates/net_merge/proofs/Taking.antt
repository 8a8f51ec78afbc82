-- The first registers that take gates, as they are found.
use Rattle.std.proofs.Common.{◌≡◌, ◌≢◌, ℕ, zero, suc, ◌+◌, ◌≤◌, ◌⊎◌, inl, inr, List, [], ◌∷◌, ◌++◌, Some, None}
use Rattle.std.proofs.Common.{refl, sym, ap, ◌∙◌, subst, arith}
use Rattle.std.specs.Prelude.{Option, slice_get, slice_set}
use Rattle.std.proofs.lemmas.Option.{same_Some}
use Rattle.std.proofs.lemmas.Bool.{cases_lt}
use Rattle.net_core.specs.declared.gate.Wire.{Wire}
use Rattle.net_core.specs.declared.gate.Wire.TheVariants.{Gate}
use Rattle.net_core.proofs.Pushed.{get_pushed, length_pushed}
use Rattle.net_merge.specs.inner.Firsts.{AreFirstsOf, AreTakers, IsFirst}

-- an item of the changed list is the new one, or stands elsewhere and was there before
get_changed : {X : Type 0} (xs : List X) (i : ℕ) (y : X) (n : ℕ) (x : X) → slice_get (slice_set xs i y) n ≡ Some x
    → ((n ≡ i) × (x ≡ y)) ⊎ ((i ≡ n → ⊥) × (slice_get xs n ≡ Some x))
get_changed [] i y n x at = absurd (cc)
get_changed (z ∷ xs) zero y zero x at = inl (refl, sym (same_Some y x at))
get_changed (z ∷ xs) zero y (suc n) x at = inr (λ e. omega (arith, e), at)
get_changed (z ∷ xs) (suc i) y zero x at = inr (λ e. omega (arith, e), at)
get_changed (z ∷ xs) (suc i) y (suc n) x at = elim (get_changed xs i y n x at) [
  | inl (same, is) ↦ inl (ap suc same, is)
  | inr (apart, there) ↦ inr (λ e. apart (omega (arith, e)), there)
]

pub no_takers : (registers : List Wire) (takers : List (Option ℕ))
    → ((n : ℕ) (t : Option ℕ) → slice_get takers n ≡ Some t → t ≡ None) → AreTakers registers 0 takers
no_takers registers takers none = record {
  takes = λ n q at. let e = none n (Some q) at in absurd (cc);
  least = λ n q k at here. let e = none n (Some q) at in absurd (cc);
  none = λ n k at low. absurd (omega arith);
}

pub no_firsts : (registers : List Wire) → AreFirstsOf registers 0 []
no_firsts registers = record { long = refl; each = λ r f at. absurd (cc) }

pub first_pushed : (registers : List Wire) (r f : ℕ) (firsts : List ℕ) → AreFirstsOf registers r firsts
    → IsFirst registers r f → AreFirstsOf registers (r + 1) (firsts ++ f ∷ [])
first_pushed registers r f firsts are first = record {
  long = let long = are.long in omega (arith, long, length_pushed firsts f);
  each = λ q g at. elim (get_pushed firsts f q g at) [
    | inl before ↦ are.each q g before
    | inr (last, is) ↦ subst (λ k. IsFirst registers k g) (sym (last ∙ are.long)) (subst (IsFirst registers r) (sym is) first)
  ];
}

-- a register that takes no gate
pub itself : (registers : List Wire) (r : ℕ) → ((n : ℕ) → slice_get registers r ≢ Some (Gate n)) → IsFirst registers r r
itself registers r none = record {
  before = omega arith;
  same = refl;
  least = λ q n here there. absurd (none n here);
}

pub takers_same : (registers : List Wire) (r : ℕ) (takers : List (Option ℕ)) → AreTakers registers r takers
    → ((n : ℕ) → slice_get takers n ≡ Some None → slice_get registers r ≢ Some (Gate n))
    → AreTakers registers (r + 1) takers
takers_same registers r takers are none = record {
  takes = are.takes;
  least = are.least;
  none = λ n k at low here. elim (cases_lt k r) [
    | inl before ↦ are.none n k at before here
    | inr behind ↦
        let same : k ≡ r = omega (arith, behind, low) in
        none n at (ap (slice_get registers) (sym same) ∙ here)
  ];
}

-- a gate that an earlier register takes
pub earlier_first : (registers : List Wire) (r n q : ℕ) (takers : List (Option ℕ)) → AreTakers registers r takers
    → slice_get registers r ≡ Some (Gate n) → slice_get takers n ≡ Some (Some q) → IsFirst registers r q
earlier_first registers r n q takers are here at = record {
  before = are.least n q r at here;
  same = are.takes n q at ∙ sym here;
  least = λ k m here' there.
      let e : Gate n ≡ Gate m = same_Some (Gate n) (Gate m) (sym here ∙ here') in
      let same : n ≡ m = cc in
      are.least n q k at (there ∙ ap (λ i. Some (Gate i)) (sym same));
}

pub earlier_takers : (registers : List Wire) (r n q : ℕ) (takers : List (Option ℕ)) → AreTakers registers r takers
    → slice_get registers r ≡ Some (Gate n) → slice_get takers n ≡ Some (Some q) → AreTakers registers (r + 1) takers
earlier_takers registers r n q takers are here at =
    takers_same registers r takers are (λ m none there.
    let e : Gate n ≡ Gate m = same_Some (Gate n) (Gate m) (sym here ∙ there) in
    let same : n ≡ m = cc in
    let both : Some (Some q) ≡ Some None = sym at ∙ (ap (slice_get takers) same ∙ none) in
    absurd (cc))

-- a gate that no earlier register takes
module _ (registers : List Wire) (r n : ℕ) (takers : List (Option ℕ)) (are : AreTakers registers r takers)
    (here : slice_get registers r ≡ Some (Gate n)) (at : slice_get takers n ≡ Some None) where
  none_before : (k : ℕ) → slice_get registers k ≡ Some (Gate n) → r ≤ k
  none_before k there = elim (cases_lt k r) [
    | inl before ↦ absurd (are.none n k at before there)
    | inr behind ↦ omega (arith, behind)
  ]

  pub new_first : IsFirst registers r r
  new_first = record {
    before = omega arith;
    same = refl;
    least = λ q m here' there.
        let e : Gate n ≡ Gate m = same_Some (Gate n) (Gate m) (sym here ∙ here') in
        let same : n ≡ m = cc in
        none_before q (there ∙ ap (λ i. Some (Gate i)) (sym same));
  }

  pub new_takers : AreTakers registers (r + 1) (slice_set takers n (Some r))
  new_takers = record {
    takes = λ m q set. elim (get_changed takers n (Some r) m (Some q) set) [
      | inl (same, is) ↦
          let e : q ≡ r = same_Some q r is in
          ap (slice_get registers) e ∙ (here ∙ ap (λ i. Some (Gate i)) (sym same))
      | inr (apart, old) ↦ are.takes m q old
    ];
    least = λ m q k set there. elim (get_changed takers n (Some r) m (Some q) set) [
      | inl (same, is) ↦
          let e : q ≡ r = same_Some q r is in
          let low = none_before k (there ∙ ap (λ i. Some (Gate i)) same) in
          omega (arith, e, low)
      | inr (apart, old) ↦ are.least m q k old there
    ];
    none = λ m k set low there. elim (get_changed takers n (Some r) m None set) [
      | inl (same, is) ↦ absurd (cc)
      | inr (apart, old) ↦ elim (cases_lt k r) [
        | inl before ↦ are.none m k old before there
        | inr behind ↦
            let same : k ≡ r = omega (arith, behind, low) in
            let e : Gate n ≡ Gate m =
            same_Some (Gate n) (Gate m) (sym here ∙ (ap (slice_get registers) (sym same) ∙ there)) in
            apart (cc)
      ]
    ];
  }
