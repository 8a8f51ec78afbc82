-- Productions that are learnt, and those of which nothing can be.
use Rattle.std.proofs.Common.{◌≡◌, ◌≤◌, ◌<◌, ◌+◌, ℕ, ◌==◌, Bool, true, false, not, cond, inl, inr, List, [], ◌∷◌}
use Rattle.std.proofs.Common.{length, take, get_or, Option, Some, None, refl, sym, ap, subst, ◌∙◌, arith}
use Rattle.std.specs.Prelude.{Contains}
use Rattle.std.specs.List.{count_by}
use Rattle.std.specs.Option.{is_some}
use Rattle.std.specs.Cmp.Lexicographic.{pointwise}
use Rattle.std.proofs.lemmas.Cmp.{nat_list_eq_equiv}
use Rattle.std.proofs.lemmas.List.Sums.{sum_by-cons}
use Rattle.pbs_ast.proofs.Items.{no_item, item_cases}
use Rattle.pbs_ast.specs.declared.syntax.Prod.{Prod}
use Rattle.pbs_check.specs.declared.facts.Facts.{Facts}
use Rattle.pbs_check.specs.declared.facts.Known.{Known}
use Rattle.pbs_check.specs.inner.Facts.{known_of, expr_facts}
use Rattle.pbs_check.specs.inner.Truth.{IsStuck, Settles, unknown_count}
use Rattle.pbs_check.proofs.UserLemmas.{taken_cases, take_whole}

-- ---- counts
count_cons : {X : Type 0} (f : X → Bool) (x : X) (xs : List X) → count_by f (x ∷ xs) ≡ cond (f x) 1 0 + count_by f xs
count_cons f x xs = sum_by-cons (λ y. cond (f y) 1 0) x xs

bit_le : (a b : Bool) → (b ≡ true → a ≡ true) → cond b 1 0 ≤ cond a 1 0
bit_le true true h = omega arith
bit_le true false h = omega arith
bit_le false false h = omega arith
bit_le false true h = let clash : false ≡ true = h refl in cc

count_le : {X : Type 0} (f g : X → Bool) (xs : List X) → ((x : X) → g x ≡ true → f x ≡ true)
    → count_by g xs ≤ count_by f xs
count_le f g [] step = omega arith
count_le f g (x ∷ xs) step =
    let a = count_cons f x xs in let b = count_cons g x xs in let c = bit_le (f x) (g x) (step x) in
    let d = count_le f g xs step in omega (arith, a, b, c, d)

bit_lt : (a b : Bool) → a ≡ true → b ≡ false → cond b 1 0 < cond a 1 0
bit_lt true false p q = omega arith
bit_lt true true p q = cc
bit_lt false b p q = cc

count_lt : {X : Type 0} (f g : X → Bool) (xs : List X) (y : X) → ((x : X) → g x ≡ true → f x ≡ true) → Contains xs y
    → f y ≡ true → g y ≡ false → count_by g xs < count_by f xs
count_lt f g [] y step here yes_f no_g = absurd (no_item here)
count_lt f g (x ∷ xs) y step here yes_f no_g =
    let a = count_cons f x xs in let b = count_cons g x xs in
    elim (item_cases x xs here) [
      | inl same ↦ let c = bit_lt (f x) (g x) (ap f same ∙ yes_f) (ap g same ∙ no_g) in let d = count_le f g xs step in
          omega (arith, a, b, c, d)
      | inr more ↦ let c = bit_le (f x) (g x) (step x) in let d = count_lt f g xs y step more yes_f no_g in
          omega (arith, a, b, c, d)
    ]

-- ---- one production is learnt
pub none_from : (o : Option Facts) → is_some o ≡ false → o ≡ None
none_from None h = refl
none_from (Some f) h = cc

pub fewer_unknown : (prods : List Prod) (p : Prod) (facts : Facts) (old new : List ℕ → Option Facts) → Contains prods p
    → old p.name ≡ None → ((name : List ℕ) → new name ≡ cond (pointwise ◌==◌ p.name name) (Some facts) (old name))
    → unknown_count prods new < unknown_count prods old
fewer_unknown prods p facts old new here none updates =
    count_lt (λ (q : Prod). not (is_some (old q.name))) (λ (q : Prod). not (is_some (new q.name))) prods p
    (λ q un. kept q.name (pointwise ◌==◌ p.name q.name) (updates q.name) un) here (ap (λ o. not (is_some o)) none)
    (ap (λ o. not (is_some o)) (updates p.name ∙ ap (λ b. cond b (Some facts) (old p.name))
    (nat_list_eq_equiv.refl p.name)))
  where
    kept : (name : List ℕ) (b : Bool) → new name ≡ cond b (Some facts) (old name) → not (is_some (new name)) ≡ true
        → not (is_some (old name)) ≡ true
    kept name true is un = let clash : true ≡ false = sym un ∙ ap (λ o. not (is_some o)) is in cc
    kept name false is un = sym (ap (λ o. not (is_some o)) is) ∙ un

-- ---- the productions as far as they were looked at
pub record LearnsTo (prods : List Prod) (n : ℕ) (old new : Known) (learnt : Bool) : Type 0 where
  pub settles : Settles prods (known_of old) → Settles prods (known_of new)
  pub never_more : unknown_count prods (known_of new) ≤ unknown_count prods (known_of old)
  pub fewer : learnt ≡ true → unknown_count prods (known_of new) < unknown_count prods (known_of old)
  pub same : learnt ≡ false → new ≡ old
  pub stuck : learnt ≡ false → (p : Prod) → Contains (take n prods) p → known_of old p.name ≡ None
      → expr_facts (known_of old) p.body ≡ None

pub learns_more : (prods : List Prod) (i : ℕ) (first old new : Known) (learnt : Bool)
    → LearnsTo prods i first old learnt → (Settles prods (known_of old) → Settles prods (known_of new))
    → unknown_count prods (known_of new) < unknown_count prods (known_of old) → LearnsTo prods (i + 1) first new true
learns_more prods i first old new learnt so_far settles fewer = record {
  settles = λ s. settles (so_far.settles s);
  never_more = omega (arith, so_far.never_more, fewer);
  fewer = λ is. omega (arith, so_far.never_more, fewer);
  same = λ is. cc;
  stuck = λ is p here none. cc;
}

pub learns_same : (prods : List Prod) (i : ℕ) (p : Prod) (first old new : Known) (learnt : Bool) → i < length prods
    → p ≡ get_or prods i p → LearnsTo prods i first old learnt → new ≡ old
    → (known_of old p.name ≡ None → expr_facts (known_of old) p.body ≡ None) → LearnsTo prods (i + 1) first new learnt
learns_same prods i p first old new learnt within is so_far same stuck = record {
  settles = λ s. let P : Known → Type 0 = λ k. Settles prods (known_of k) in subst P (sym same) (so_far.settles s);
  never_more = let e = ap (λ k. unknown_count prods (known_of k)) same in omega (arith, e, so_far.never_more);
  fewer = λ yes_it. let e = ap (λ k. unknown_count prods (known_of k)) same in let f = so_far.fewer yes_it in
      omega (arith, e, f);
  same = λ no_it. same ∙ so_far.same no_it;
  stuck = λ no_it q here. elim (taken_cases prods i p q within is here) [
    | inl before ↦ so_far.stuck no_it q before
    | inr this ↦
        let P : Prod → Type 0 = λ z. known_of first z.name ≡ None → expr_facts (known_of first) z.body ≡ None in
        let Q : Known → Type 0 = λ k. known_of k p.name ≡ None → expr_facts (known_of k) p.body ≡ None in
        subst P this (subst Q (so_far.same no_it) stuck)
  ];
}

pub learns_all : (prods : List Prod) (n : ℕ) (old new : Known) (learnt : Bool) → length prods ≤ n → learnt ≡ false
    → LearnsTo prods n old new learnt → IsStuck prods (known_of new)
learns_all prods n old new learnt all none so_far =
    let P : Known → Type 0 = λ k. IsStuck prods (known_of k) in
    subst P (sym (so_far.same none)) (record { stuck = λ p here. so_far.stuck none p (taken p here) })
  where
    taken : (p : Prod) → Contains prods p → Contains (take n prods) p
    taken p here = let P : List Prod → Type 0 = λ xs. Contains xs p in subst P (sym (take_whole prods n all)) here
