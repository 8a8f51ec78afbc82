-- The first difference among the comparisons that were made so far.
use Rattle.std.proofs.Common.{◌≡◌, inl, inr, ℕ, ◌+◌, ◌<◌, ◌≤◌, List, length, Option, Some, None}
use Rattle.std.proofs.Common.{sym, ap, subst, ◌∙◌, arith}
use Rattle.std.proofs.lemmas.Bool.{cases_lt}
use Rattle.std.specs.Prelude.{slice_get}
use Rattle.std.proofs.lemmas.Option.{same_Some, slice_get_within}
use Rattle.net_core.specs.Circuits.{Circuit}
use Rattle.net_equiv.specs.declared.answer.RegPair.{RegPair}
use Rattle.net_equiv.specs.declared.answer.Comparison.{Comparison}
use Rattle.net_equiv.specs.declared.answer.Difference.{Difference}
use Rattle.net_equiv.specs.declared.fail.CompareFail.{CompareFail}
use Rattle.net_equiv.specs.declared.fail.CompareFail.TheVariants as fail
use Rattle.net_equiv.specs.Comparing.{comparisons, Agrees}
use Rattle.net_equiv.specs.inner.Naming.{answer_by, first_told}
use Rattle.net_equiv.specs.Told.{IsAnswer, IsCompareCause, IsComparisonCause, IsFirstDifference, IsNarrow, IsOutcome}

module _ (a b : Circuit) (pairs : List RegPair) where
  -- what is meant holds of each comparison before this place
  pub record HoldsBelow (P : Comparison → Type 0) (i : ℕ) : Type 0 where
    pub each : (k : ℕ) (c : Comparison) → k < i → slice_get (comparisons a pairs) k ≡ Some c → P c

  abbrev pub IsFirstBelow : ℕ → Option Difference → Type 0
  IsFirstBelow i None = HoldsBelow (Agrees a b pairs) i
  IsFirstBelow i (Some d) = IsFirstDifference a b pairs d

  pub below_none : (P : Comparison → Type 0) → HoldsBelow P 0
  below_none P = record { each = λ k c h at. absurd (omega arith) }

  pub below_more : (P : Comparison → Type 0) (i : ℕ) (c : Comparison) → slice_get (comparisons a pairs) i ≡ Some c
      → HoldsBelow P i → P c → HoldsBelow P (i + 1)
  below_more P i c at before p = record {
    each = λ k d h e. elim (cases_lt k i) [
      | inl lt ↦ before.each k d lt e
      | inr ge ↦
          let here : i ≡ k = omega arith in
          subst P (same_Some c d (sym at ∙ (ap (λ j. slice_get (comparisons a pairs) j) here ∙ e))) p
    ];
  }

  pub first_more : (i : ℕ) (c : Comparison) (found told : Option Difference)
      → slice_get (comparisons a pairs) i ≡ Some c → IsFirstBelow i found → IsOutcome a b pairs c told
      → IsFirstBelow (i + 1) (first_told found told)
  first_more i c None None at before agrees = below_more (Agrees a b pairs) i c at before agrees
  first_more i c None (Some d) at before difference =
      record { place = i; comparison = c; there = at; before = before.each; difference = difference }
  first_more i c (Some d) told at first outcome = first

  pub answer_right : (i : ℕ) (found : Option Difference) → length (comparisons a pairs) ≤ i
      → HoldsBelow (IsNarrow a b pairs) i → IsFirstBelow i found → IsAnswer a b pairs (answer_by found)
  answer_right i None past narrow first = (
    record { each = λ k c at. narrow.each k c (let h = slice_get_within (comparisons a pairs) k c at in omega arith) at },
    record { each = λ k c at. first.each k c (let h = slice_get_within (comparisons a pairs) k c at in omega arith) at },
  )
  answer_right i (Some d) past narrow first = (
    record { each = λ k c at. narrow.each k c (let h = slice_get_within (comparisons a pairs) k c at in omega arith) at },
    first,
  )

  pub cause_at : (i : ℕ) (c : Comparison) (e : CompareFail) → slice_get (comparisons a pairs) i ≡ Some c
      → IsComparisonCause a b pairs c e → IsCompareCause a b pairs e
  cause_at i c fail.Wide at wide = record { place = i; comparison = c; there = at; wide = wide }
  cause_at i c fail.Memory at cause = tt
