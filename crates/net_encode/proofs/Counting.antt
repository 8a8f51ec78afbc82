-- The members of all groups are at most as many as the places.
use Rattle.std.proofs.Common.{◌≡◌, ℕ, zero, suc, ◌≤◌, Bool, true, false, ◌||◌, ◌⊎◌, inl, inr}
use Rattle.std.proofs.Common.{List, [], ◌∷◌, ◌++◌, length, length-append, Some, refl, sym, ap, arith}
use Rattle.std.specs.Prelude.{slice_get}
use Rattle.std.specs.List.{IsDistinct, AllByRecursion, list_any}
use Rattle.std.proofs.Math.Dec.{eqb}
use Rattle.std.proofs.lemmas.Bool.{eqb-true}
use Rattle.std.proofs.lemmas.Bool.Decides.{eqb_tells}
use Rattle.std.proofs.lemmas.Map.Steps.{length-le_from_distinct_below}
use Rattle.net_core.specs.declared.codes.CodePlan.{CodePlan}
use Rattle.net_encode.specs.inner.Plans.{IsIn, AreDistinct, AreOnce, IsPlan}
use Rattle.net_encode.specs.inner.Sharing.{member_count}
use Rattle.net_encode.proofs.Coding.{first_distinct, rest_once, not_first, distinct_tail}

flat : List (List ℕ) → List ℕ
flat [] = []
flat (g ∷ gs) = g ++ flat gs

all_apart : (x : ℕ) (xs : List ℕ) → ((i : ℕ) → slice_get xs i ≡ Some x → ⊥) → AllByRecursion (λ y. eqb x y ≡ false) xs
all_apart x [] none = tt
all_apart x (y ∷ ys) none = elim (eqb_tells x y) [
  | inl (test, same) ↦ absurd (none zero (ap Some (sym same)))
  | inr (test, other) ↦ (test, all_apart x ys (λ i at. none (suc i) at))
]

in_either : (xs ys : List ℕ) (i x : ℕ) → slice_get (xs ++ ys) i ≡ Some x
    → ((j : ℕ) × (slice_get xs j ≡ Some x)) ⊎ ((j : ℕ) × (slice_get ys j ≡ Some x))
in_either [] ys i x at = inr (i, at)
in_either (z ∷ xs) ys zero x at = inl (zero, at)
in_either (z ∷ xs) ys (suc i) x at = elim (in_either xs ys i x at) [
  | inl (j, a) ↦ inl (suc j, a)
  | inr found ↦ inr found
]

distinct_append : (xs ys : List ℕ) → AreDistinct xs → IsDistinct eqb ys
    → ((i j p : ℕ) → slice_get xs i ≡ Some p → slice_get ys j ≡ Some p → ⊥) → IsDistinct eqb (xs ++ ys)
unfolding IsDistinct
distinct_append [] ys d rest apart = rest
distinct_append (x ∷ xs) ys d rest apart = (
  all_apart x (xs ++ ys) (λ i at. elim (in_either xs ys i x at) [
    | inl (j, a) ↦ let e = d.distinct zero (suc j) x refl a in omega (arith, e)
    | inr (j, b) ↦ apart zero j x refl b
  ]),
  distinct_append xs ys (distinct_tail x xs d) rest (λ i j p a b. apart (suc i) j p a b),
)

in_flat : (groups : List (List ℕ)) (i p : ℕ) → slice_get (flat groups) i ≡ Some p → IsIn groups p
unfolding flat
in_flat [] i p at = absurd (cc)
in_flat (g ∷ gs) i p at = elim (in_either g (flat gs) i p at) [
  | inl (j, a) ↦ record { group = g; number = 0; at = refl; position = j; there = a }
  | inr (j, b) ↦
      let rest = in_flat gs j p b in
      record {
        group = rest.group;
        number = suc rest.number;
        at = rest.at;
        position = rest.position;
        there = rest.there;
      }
]

flat_distinct : (groups : List (List ℕ)) → AreOnce groups → IsDistinct eqb (flat groups)
unfolding flat IsDistinct
flat_distinct [] once = tt
flat_distinct (g ∷ gs) once =
    distinct_append g (flat gs) (first_distinct g gs once) (flat_distinct gs (rest_once g gs once))
    (λ i j p a b.
    let seat = in_flat gs j p b in
    not_first g gs once seat.number seat.position p seat.group seat.at seat.there i a)

length_flat : (groups : List (List ℕ)) → length (flat groups) ≡ member_count groups
unfolding flat
length_flat [] = refl
length_flat (g ∷ gs) = let rest = length_flat gs in omega (arith, length-append g (flat gs), rest)

any_at : (q : ℕ) (xs : List ℕ) → list_any (eqb q) xs ≡ true → (i : ℕ) × (slice_get xs i ≡ Some q)
any_at q [] on = absurd (cc)
any_at q (x ∷ xs) on = by_test (eqb q x) refl on (λ rest. any_at q xs rest)
  where
    by_test : (b : Bool) → eqb q x ≡ b → (b || list_any (eqb q) xs) ≡ true
        → (list_any (eqb q) xs ≡ true → (i : ℕ) × (slice_get xs i ≡ Some q))
        → (i : ℕ) × (slice_get (x ∷ xs) i ≡ Some q)
    by_test true e on rest = (zero, ap Some (sym (eqb-true q x e)))
    by_test false e on rest = let found = rest on in (suc found.0, found.1)

pub members_few : (places : ℕ) (plan : CodePlan) → IsPlan places plan → member_count plan.groups ≤ places
members_few places plan ok =
    let few = length-le_from_distinct_below (flat plan.groups) places (flat_distinct plan.groups ok.once)
    (λ q on.
    let found = any_at q (flat plan.groups) on in
    (ok.leaders q (in_flat plan.groups found.0 q found.1)).0) in
    let long = length_flat plan.groups in
    omega (arith, few, long)
