-- Stretches that follow one another: the number of them, the first and the last.
use Rattle.std.proofs.Common.{◌≡◌, ℕ, zero, suc, ◌-◌, ◌<◌, ◌≤◌, Bool, true, ◌&&◌, ◌||◌, ◌⊎◌, nat_eq, inl, inr, refl}
use Rattle.std.proofs.Common.{sym, ◌∙◌, ap, arith}
use Rattle.std.proofs.lemmas.Bool.{and_parts, and_from, eqb-true, eq-eqb, or_left, or_right}
use Rattle.pbs_derive.specs.Derivations.{repeats, some_after}
use Rattle.pbs_derive.proofs.Positions.{or_elim, or_same, and_same, same_test, after_to, after_from, after_same}

-- a number of stretches that lead from i to j
abbrev pub Repeats : (ℕ → ℕ → Bool) → ℕ → ℕ → Type 0
Repeats once i j = (n : ℕ) × (repeats once n i j ≡ true)

pub repeats_none : (once : ℕ → ℕ → Bool) (n i j : ℕ) → i ≡ j → repeats once n i j ≡ true
repeats_none once zero i j e = eq-eqb i j e
repeats_none once (suc n) i j e = or_left _ _ (eq-eqb i j e)

pub repeats_first : (once : ℕ → ℕ → Bool) (n i m j : ℕ) → i < m → m ≤ j → once i m ≡ true → repeats once n m j ≡ true
    → repeats once (suc n) i j ≡ true
repeats_first once n i m j low high here rest =
    or_right _ _ (after_from i j (λ m. once i m && repeats once n m j) m low high (and_from _ _ here rest))

pub repeats_order : (once : ℕ → ℕ → Bool) (n i j : ℕ) → repeats once n i j ≡ true → i ≤ j
repeats_order once zero i j e = let q : i ≡ j = eqb-true i j e in omega arith
repeats_order once (suc n) i j e =
    or_elim _ _ e
    (λ same. let q : i ≡ j = eqb-true i j same in omega arith)
    (λ more. let w = after_to i j (λ m. once i m && repeats once n m j) more in let a : i < w.0 = w.1 in
    let b : w.0 ≤ j = w.2 in omega arith)

-- j - i stretches are enough, since none is empty
pub repeats_within : (once : ℕ → ℕ → Bool) (n d i j : ℕ) → repeats once n i j ≡ true → j - i ≤ d
    → repeats once d i j ≡ true
repeats_within once zero d i j e le = repeats_none once d i j (eqb-true i j e)
repeats_within once (suc n) zero i j e le =
    eq-eqb i j (let o : i ≤ j = repeats_order once (suc n) i j e in omega arith)
repeats_within once (suc n) (suc d) i j e le =
    or_elim _ _ e
    (λ same. or_left _ _ same)
    (λ more.
    let w = after_to i j (λ m. once i m && repeats once n m j) more in
    let p = and_parts (once i w.0) (repeats once n w.0 j) w.3 in
    let a : i < w.0 = w.1 in
    repeats_first once d i w.0 j w.1 w.2 p.0 (repeats_within once n d w.0 j p.1 (omega arith)))

pub repeats_from : (once : ℕ → ℕ → Bool) (i j : ℕ) → Repeats once i j → repeats once (j - i) i j ≡ true
repeats_from once i j w = repeats_within once w.0 (j - i) i j w.1 (omega arith)

pub repeats_last : (once : ℕ → ℕ → Bool) (n i m j : ℕ) → repeats once n i m ≡ true → m < j → once m j ≡ true
    → Repeats once i j
repeats_last once zero i m j e lt last = (
  1,
  repeats_first once 0 i j j (let q : i ≡ m = eqb-true i m e in omega arith) (omega arith)
      (ap (λ a. once a j) (eqb-true i m e) ∙ last) (repeats_none once 0 j j refl),
)
repeats_last once (suc n) i m j e lt last =
    or_elim _ _ e
    (λ same. (
      1,
      repeats_first once 0 i j j (let q : i ≡ m = eqb-true i m same in omega arith) (omega arith)
          (ap (λ a. once a j) (eqb-true i m same) ∙ last) (repeats_none once 0 j j refl),
    ))
    (λ more.
    let w = after_to i m (λ a. once i a && repeats once n a m) more in
    let p = and_parts (once i w.0) (repeats once n w.0 m) w.3 in
    let r = repeats_last once n w.0 m j p.1 lt last in
    let high : w.0 ≤ m = w.2 in
    (suc r.0, repeats_first once r.0 i w.0 j w.1 (omega arith) p.0 r.1))

-- the last of some stretches
pub last_of : (once : ℕ → ℕ → Bool) (n i j : ℕ) → repeats once n i j ≡ true
    → (i ≡ j) ⊎ ((m : ℕ) × (i ≤ m) × (m < j) × Repeats once i m × (once m j ≡ true))
last_of once zero i j e = inl (eqb-true i j e)
last_of once (suc n) i j e =
    or_elim _ _ e
    (λ same. inl (eqb-true i j same))
    (λ more.
    let w = after_to i j (λ m. once i m && repeats once n m j) more in
    let p = and_parts (once i w.0) (repeats once n w.0 j) w.3 in
    let low : i < w.0 = w.1 in
    elim (last_of once n w.0 j p.1) [
      | inl same ↦ let q : w.0 ≡ j = same in
          inr (i, omega arith, omega arith, (0, repeats_none once 0 i i refl), ap (once i) (sym q) ∙ p.0)
      | inr l ↦
          let b : w.0 ≤ l.0 = l.1 in
          inr (l.0, omega arith, l.2, (suc l.3.0, repeats_first once l.3.0 i w.0 l.0 w.1 b p.0 l.3.1), l.4)
    ])

pub repeats_same : (d n : ℕ) (f g : ℕ → ℕ → Bool) → ((i j : ℕ) → j ≤ n → f i j ≡ g i j) → (i j : ℕ) → j ≤ n
    → repeats f d i j ≡ repeats g d i j
repeats_same zero n f g h i j le = refl
repeats_same (suc d) n f g h i j le =
    or_same _ _ _ _ refl (after_same i j (λ m. f i m && repeats f d m j) (λ m. g i m && repeats g d m j)
    (λ m low high. and_same _ _ _ _ (h i m (omega arith)) (repeats_same d n f g h m j le)))

-- no stretch, or a first one that isn't empty and then others
pub repeats_unfold : (once : ℕ → ℕ → Bool) (i j : ℕ)
    → repeats once (j - i) i j ≡ (nat_eq i j || some_after i j (λ m. once i m && repeats once (j - m) m j))
repeats_unfold once i j =
    same_test _ _
    (λ e. or_elim _ _ (repeats_within once (j - i) (suc (j - i)) i j e (omega arith))
    (λ same. or_left _ _ same)
    (λ more.
    let w = after_to i j (λ m. once i m && repeats once (j - i) m j) more in
    let p = and_parts (once i w.0) (repeats once (j - i) w.0 j) w.3 in
    or_right _ _ (after_from i j (λ m. once i m && repeats once (j - m) m j) w.0 w.1 w.2
    (and_from _ _ p.0 (repeats_from once w.0 j (j - i, p.1))))))
    (λ e. or_elim (nat_eq i j) (some_after i j (λ m. once i m && repeats once (j - m) m j)) e
    (λ same. repeats_none once (j - i) i j (eqb-true i j same))
    (λ more.
    let w = after_to i j (λ m. once i m && repeats once (j - m) m j) more in
    let p = and_parts (once i w.0) (repeats once (j - w.0) w.0 j) w.3 in
    repeats_from once i j (suc (j - w.0), repeats_first once (j - w.0) i w.0 j w.1 w.2 p.0 p.1)))
