-- The gates of the order, marked one by one.
use Rattle.std.proofs.Common.{◌≡◌, ℕ, ◌+◌, ◌<◌, inl, inr, Bool, true, false, List, [], ◌∷◌, length}
use Rattle.std.proofs.Common.{set, take, get_or, refl, sym, ap, ◌∙◌, arith, length-set, get_or-set_same}
use Rattle.std.proofs.Common.{get_or-set_other}
use Rattle.std.specs.Prelude.{nat_eq, ◌||◌}
use Rattle.std.proofs.lemmas.List.{take_more}
use Rattle.std.proofs.lemmas.List.Folds.{list_any-append}
use Rattle.std.proofs.lemmas.Bool.{ne_eqb, eq-eqb, cases_eq, or_right}
use Rattle.vlog_text.specs.Orders.{is_among}
use Rattle.vlog_order.specs.inner.Queues.{marked}

pub record Marked (count : ℕ) (order : List ℕ) (i : ℕ) (taken : List Bool) : Type 0 where
  pub long : length taken ≡ count
  pub same : (n : ℕ) → marked taken n ≡ is_among (take i order) n

pub marked_more : (count : ℕ) (order : List ℕ) (i k : ℕ) (taken : List Bool) → i < length order → k ≡ get_or order i 0
    → k < count → Marked count order i taken → Marked count order (i + 1) (set taken k true)
marked_more count order i k taken within at below old = record {
  long = length-set taken k true ∙ old.long;
  same = λ n. now n ∙ sym (among n);
}
  where
    or_none : (b : Bool) → (b || false) ≡ b
    or_none true = refl
    or_none false = refl

    or_false : (a b : Bool) → b ≡ false → (a || b) ≡ a
    or_false true b e = refl
    or_false false b e = e

    among : (n : ℕ) → is_among (take (i + 1) order) n ≡ (is_among (take i order) n || nat_eq n k)
    among n =
        ap (λ xs. is_among xs n) (take_more order i 0 within)
        ∙ list_any-append (nat_eq n) (take i order) (get_or order i 0 ∷ [])
        ∙ ap (λ j. is_among (take i order) n || (nat_eq n j || false)) (sym at)
        ∙ ap (λ b. is_among (take i order) n || b) (or_none (nat_eq n k))

    now : (n : ℕ) → marked (set taken k true) n ≡ (is_among (take i order) n || nat_eq n k)
    now n = elim (cases_eq n k) [
      | inl e ↦ ap (λ j. marked (set taken k true) j) e
          ∙ get_or-set_same taken k true false (omega (arith, old.long, below))
          ∙ sym (or_right (is_among (take i order) n) (nat_eq n k) (eq-eqb n k e))
      | inr ne ↦ get_or-set_other taken k n true false ne ∙ old.same n
          ∙ sym (or_false (is_among (take i order) n) (nat_eq n k) (ne_eqb n k ne))
    ]
