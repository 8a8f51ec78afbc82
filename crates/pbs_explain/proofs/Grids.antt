-- A grid that gains a row.
use Rattle.std.proofs.Common.{◌≡◌, ℕ, ◌+◌, ◌-◌, ◌<◌, ◌≤◌, Bool, ◌&&◌, ◌||◌, inl, inr, List, [], ◌∷◌, ◌++◌}
use Rattle.std.proofs.Common.{length, refl, sym, ap, ◌∙◌, arith, nat_eq}
use Rattle.std.specs.Prelude.{slice_get}
use Rattle.std.proofs.lemmas.Bool.{cases_lt}
use Rattle.pbs_covers.specs.Grids.{row_of, entry, at}
use Rattle.pbs_covers.proofs.Grids.{slice_get-left, slice_get-seam}
use Rattle.pbs_explain.specs.inner.Charts.{step_covers}
use Rattle.pbs_explain.specs.declared.step.Step.{Step}
use Rattle.pbs_explain.specs.declared.step.Step.TheVariants.{Empty, Action, Terminal, Seq, Choice, Star, Hold, Scope}
use Rattle.pbs_derive.proofs.Positions.{within_same}

pub at-old : (n i j : ℕ) (grid : List (List Bool)) (row : List Bool) → n - i < length grid
    → at n (grid ++ row ∷ []) i j ≡ at n grid i j
at-old n i j grid row h = ap (λ r. entry (row_of r) j) (slice_get-left grid (row ∷ []) (n - i) h)

pub at-new : (n i j : ℕ) (grid : List (List Bool)) (row : List Bool) → n - i ≡ length grid
    → at n (grid ++ row ∷ []) i j ≡ entry row j
at-new n i j grid row h = ap (λ r. entry (row_of r) j) (ap (slice_get (grid ++ row ∷ [])) h
    ∙ slice_get-seam grid row [])

-- a node looks at its own rows of later starts alone
step_covers-more : (step : Step) (n : ℕ) (grid : List (List Bool)) (row : List Bool) (i j : ℕ) → n - i ≤ length grid
    → j ≤ n → step_covers step n grid i j ≡ step_covers step n (grid ++ row ∷ []) i j
step_covers-more Empty n grid row i j p q = refl
step_covers-more (Action asked) n grid row i j p q = refl
step_covers-more (Terminal truths) n grid row i j p q = refl
step_covers-more (Seq a b) n grid row i j p q = refl
step_covers-more (Choice a b) n grid row i j p q = refl
step_covers-more (Star a) n grid row i j p q =
    ap (λ x. nat_eq i j || x)
    (within_same (i + 1) j (λ m. at n a.now.covers i m && at n grid m j)
    (λ m. at n a.now.covers i m && at n (grid ++ row ∷ []) m j)
    (λ m above below. ap (λ x. at n a.now.covers i m && x) (sym (at-old n m j grid row (omega arith)))))
step_covers-more (Hold truths a) n grid row i j p q = refl
step_covers-more (Scope a x h) n grid row i j p q = refl

-- the entries of a grid with one row more
pub grows : (step : Step) (n back : ℕ) (grid : List (List Bool)) (row : List Bool) → back ≤ n → length grid ≡ back
    → ((i j : ℕ) → n < i + back → i ≤ j → j ≤ n → at n grid i j ≡ step_covers step n grid i j)
    → ((j : ℕ) → n - back ≤ j → j ≤ n → entry row j ≡ step_covers step n grid (n - back) j) → (i j : ℕ)
    → n < i + (back + 1) → i ≤ j → j ≤ n → at n (grid ++ row ∷ []) i j ≡ step_covers step n (grid ++ row ∷ []) i j
grows step n back grid row within filled exact fresh i j from order to =
    elim (cases_lt n (i + back)) [
      | inl old ↦ at-old n i j grid row (omega arith)
          ∙ (exact i j old order to ∙ step_covers-more step n grid row i j (omega arith) to)
      | inr new ↦
          let e : i ≡ n - back = omega arith in
          at-new n i j grid row (omega arith)
          ∙ (fresh j (omega arith) to
          ∙ (ap (λ s. step_covers step n grid s j) (sym e) ∙ step_covers-more step n grid row i j
          (omega arith) to))
    ]

-- the same for a grid that doesn't look at its own rows
pub grid_more : (n back : ℕ) (grid new : List (List Bool)) (row : List Bool) (f : ℕ → ℕ → Bool)
    → new ≡ grid ++ row ∷ [] → back ≤ n → length grid ≡ back
    → ((i j : ℕ) → n < i + back → i ≤ j → j ≤ n → at n grid i j ≡ f i j)
    → ((j : ℕ) → n - back ≤ j → j ≤ n → entry row j ≡ f (n - back) j) → (i j : ℕ)
    → n < i + (back + 1) → i ≤ j → j ≤ n → at n new i j ≡ f i j
grid_more n back grid new row f grown within filled exact fresh i j from order to =
    ap (λ g. at n g i j) grown
    ∙ elim (cases_lt n (i + back)) [
      | inl old ↦ at-old n i j grid row (omega arith) ∙ exact i j old order to
      | inr late ↦
          let e : i ≡ n - back = omega arith in
          at-new n i j grid row (omega arith) ∙ (fresh j (omega arith) to ∙ ap (λ s. f s j) (sym e))
    ]
