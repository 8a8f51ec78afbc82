-- The names that stand twice are those that the code finds.
use Rattle.std.proofs.Common.{◌≡◌, ℕ, ◌==◌, Bool, true, false, ◌⊎◌, inl, inr, List, [], ◌∷◌, Option, Some, None, refl}
use Rattle.std.proofs.Common.{sym, ap, subst, ◌∙◌}
use Rattle.std.specs.Prelude.{if◌then◌else◌, Contains}
use Rattle.std.specs.Cmp.Lexicographic.{pointwise, same_text}
use Rattle.std.proofs.lemmas.Bool.{false≢true}
use Rattle.std.proofs.lemmas.Cmp.{nat_list_eq_equiv}
use Rattle.pbs_ast.proofs.Items.{first_item, later_item, no_item, item_cases}
use Rattle.pbs_base.specs.declared.refusal.Span.{Span}
use Rattle.pbs_check.specs.declared.named.Named.{Named}
use Rattle.pbs_check.specs.Declaring.{Twice, First, Further}
use Rattle.pbs_check.specs.Least.{span_le, later_span, IsLeast}
use Rattle.pbs_check.specs.inner.Twices.{first_place, later_of, first_twice}
use Rattle.pbs_check.proofs.LeastLemmas.{span_refl, span_trans, span_total, least_either}

-- a place of the name
data PlaceOf (name : List ℕ) (xs : List Named) (s : Span) : Type 0 where
  At : {y : Named} → Contains xs y → y.name ≡ name → y.span ≡ s → PlaceOf name xs s

here_is : (x : Named) (name : List ℕ) (b : Bool) → pointwise ◌==◌ x.name name ≡ b
    → IsLeast (PlaceOf name (x ∷ [])) (if b then Some x.span else None)
here_is x name true same = (At (first_item x []) (same_text x.name name (sym same)) refl, λ s at. only at)
  where
    only : {s : Span} → PlaceOf name (x ∷ []) s → span_le x.span s ≡ true
    only {s = s} (At here is at) = elim (item_cases x [] here) [
      | inl e ↦ let P : Span → Type 0 = λ t. span_le x.span t ≡ true in subst P (ap (λ (n : Named). n.span) e
          ∙ at) (span_refl x.span)
      | inr more ↦ absurd (no_item more)
    ]
here_is x name false other = λ s at. none at
  where
    none : {s : Span} → PlaceOf name (x ∷ []) s → ⊥
    none (At here is at) = elim (item_cases x [] here) [
      | inl e ↦ false≢true (sym other ∙ ap (λ n. pointwise ◌==◌ n name) (ap (λ (n : Named). n.name) e ∙ is)
          ∙ nat_list_eq_equiv.refl name)
      | inr more ↦ no_item more
    ]

first_place_is : (name : List ℕ) (xs : List Named) → IsLeast (PlaceOf name xs) (first_place name xs)
first_place_is name [] = λ s at. none at
  where
    none : {s : Span} → PlaceOf name [] s → ⊥
    none (At here is at) = no_item here
first_place_is name (x ∷ xs) =
    least_either (PlaceOf name (x ∷ [])) (PlaceOf name xs) (PlaceOf name (x ∷ xs))
    (if pointwise ◌==◌ x.name name then Some x.span else None) (first_place name xs)
    (here_is x name (pointwise ◌==◌ x.name name) refl) (first_place_is name xs) (λ s p. front p) (λ s p. back p)
    (λ s p. split p)
  where
    front : {s : Span} → PlaceOf name (x ∷ []) s → PlaceOf name (x ∷ xs) s
    front (At here is at) =
        let P : Named → Type 0 = Contains (x ∷ xs) in At
        (elim (item_cases x [] here) [ inl e ↦ subst P e (first_item x xs) | inr more ↦ absurd (no_item more) ])
        is at

    back : {s : Span} → PlaceOf name xs s → PlaceOf name (x ∷ xs) s
    back (At here is at) = At (later_item x xs here) is at

    split : {s : Span} → PlaceOf name (x ∷ xs) s → PlaceOf name (x ∷ []) s ⊎ PlaceOf name xs s
    split (At {y = y} here is at) = elim (item_cases x xs here) [
      | inl e ↦ let P : Named → Type 0 = Contains (x ∷ []) in inl (At (subst P e (first_item x [])) is at)
      | inr more ↦ inr (At more is at)
    ]

-- the later of two places grows with the first
later_grows : (a b c : Span) (x y : Bool) → span_le a c ≡ x → span_le b c ≡ y → span_le a b ≡ true
    → span_le (if x then c else a) (if y then c else b) ≡ true
later_grows a b c true true p q h = span_refl c
later_grows a b c true false p q h = span_total b c q
later_grows a b c false true p q h = absurd (false≢true (sym p ∙ span_trans a b c h q))
later_grows a b c false false p q h = h

-- the later places of the first name and of those that have it too
data LaterOf (x : Named) (xs : List Named) (s : Span) : Type 0 where
  Pair : {y : Named} → Contains xs y → y.name ≡ x.name → later_span y.span x.span ≡ s → LaterOf x xs s

later_is : (x : Named) (xs : List Named) (known : Option Span) → IsLeast (PlaceOf x.name xs) known
    → IsLeast (LaterOf x xs) (later_of known x.span)
later_is x xs None none = λ s p. no p
  where
    no : {s : Span} → LaterOf x xs s → ⊥
    no (Pair {y = y} here is at) = none y.span (At here is refl)
later_is x xs (Some k) least = (found least.0, λ s p. below p)
  where
    found : PlaceOf x.name xs k → LaterOf x xs (later_span k x.span)
    found (At here is at) = Pair here is (ap (λ t. later_span t x.span) at)

    below : {s : Span} → LaterOf x xs s → span_le (later_span k x.span) s ≡ true
    below (Pair {y = y} here is at) =
        let P : Span → Type 0 = λ t. span_le (later_span k x.span) t ≡ true in
        subst P at (later_grows k y.span x.span (span_le k x.span) (span_le y.span x.span) refl refl
        (least.1 y.span (At here is refl)))

-- the least place at which a name stands for the second time
pub first_twice_is : (xs : List Named) → IsLeast (Twice xs) (first_twice xs)
first_twice_is [] = λ s t. none t
  where
    none : {s : Span} → Twice [] s → ⊥
    none t = elim t [ ]
first_twice_is (x ∷ xs) =
    least_either (LaterOf x xs) (Twice xs) (Twice (x ∷ xs)) (later_of (first_place x.name xs) x.span) (first_twice xs)
    (later_is x xs (first_place x.name xs) (first_place_is x.name xs)) (first_twice_is xs) (λ s p. front p)
    (λ s p. Further p) (λ s t. split t)
  where
    front : {s : Span} → LaterOf x xs s → Twice (x ∷ xs) s
    front (Pair here is at) = let P : Span → Type 0 = Twice (x ∷ xs) in subst P at (First here is)

    split : {s : Span} → Twice (x ∷ xs) s → LaterOf x xs s ⊎ Twice xs s
    split (First here is) = inl (Pair here is refl)
    split (Further t) = inr t
