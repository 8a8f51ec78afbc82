-- The sorted list of the follow edges.
use Rattle.std.proofs.Common.{◌≡◌, ℕ, zero, suc, ◌+◌, ◌<◌, ◌≤◌, Bool, true, false, cond, ◌&&◌, ◌⊎◌, inl, inr, List, []}
use Rattle.std.proofs.Common.{◌∷◌}
use Rattle.std.proofs.Common.{◌↔◌, length, get_or, sum_by, refl, sym, ◌∙◌, ap, subst, arith, add-one}
use Rattle.std.specs.Prelude.{nat_eq, nat_lt, slice_get, Some, Contains}
use Rattle.std.proofs.lemmas.Option.{same_Some}
use Rattle.std.proofs.Common.{Ordering, Less, Equal, Greater, is_lt, nat_cmp}
use Rattle.std.specs.Ordering.{ordering_then}
use Rattle.std.specs.List.{AllAdjacentBelow}
use Rattle.std.specs.List.Sorted.{IsPermutation, IsStrictlyIncreasing}
use Rattle.std.proofs.lemmas.List.Sorted.{Contains-permutation, length_permutation, IsPermutation-sym}
use Rattle.std.proofs.lemmas.List.Sorted.{sum_by-IsPermutation}
use Rattle.std.proofs.lemmas.List.Sums.{sum_by-cons}
use Rattle.std.proofs.lemmas.Bool.{false≢true, cases_order, cases_Bool, cond-true, cond-false, lt-ltb, le-ltb, eq-eqb}
use Rattle.std.proofs.lemmas.Bool.{eqb-true, and_parts, and_from}
use Rattle.pbs_ast.specs.Trees.{Tree}
use Rattle.pbs_ast.specs.Sound.{place_count, IsCounted}
use Rattle.pbs_edges.specs.declared.edge.Edge.{Edge}
use Rattle.pbs_edges.specs.Listed.{first_places, follow_edges}
use Rattle.pbs_edges.specs.Found.{IsFirstPlace, IsFollowEdge, IsBefore, HasFewTerms, AreEdges}
use Rattle.pbs_edges.specs.declared.edge.Edges.{Edges}
use Rattle.pbs_edges.proofs.Numbering.{IsNumbered, is_numbered}
use Rattle.pbs_edges.proofs.Listed.{OneOf, first_listed, listed_first, follow_listed, listed_follow}
use Rattle.pbs_edges.proofs.Rising.{RisesWithin, first_places-rise}
use Rattle.pbs_edges.proofs.Distinct.{Distinct, follow_edges-distinct}

-- One of a list, and an element at some index

pub contains_from : {A : Type 0} (xs : List A) (x : A) → OneOf xs x → Contains xs x
contains_from [] x h = absurd h
contains_from (y ∷ xs) x h = elim h [
  | inl e ↦ (zero, omega arith, e)
  | inr t ↦ let r = contains_from xs x t in (suc r.0, let l = r.1 in omega arith, r.2)
]

pub contains_to : {A : Type 0} (xs : List A) (x : A) → Contains xs x → OneOf xs x
contains_to [] x c = let l = c.1 in absurd (omega arith)
contains_to (y ∷ xs) x (zero, l, e) = inl e
contains_to (y ∷ xs) x (suc k, l, e) = inr (contains_to xs x (k, omega arith, e))

pub firsts_exact : (main : Tree) (p : ℕ) → Contains (first_places main) p ↔ IsFirstPlace main p
firsts_exact main p = (
  λ c. first_listed main p (contains_to (first_places main) p c),
  λ f. contains_from (first_places main) p (listed_first f.1),
)

pub follows_exact : (main : Tree) (edges : List Edge) → IsPermutation (follow_edges main) edges → (d : Edge)
    → Contains edges d ↔ IsFollowEdge main d
follows_exact main edges moved d = (
  λ c. follow_listed main d (contains_to (follow_edges main) d
      (Contains-permutation edges (follow_edges main) d (IsPermutation-sym (follow_edges main) edges moved) c)),
  λ f. Contains-permutation (follow_edges main) edges d moved
      (contains_from (follow_edges main) d (listed_follow f.3)),
)

-- The first places rise

next_rises : (b c : ℕ) (xs : List ℕ) (k : ℕ) → RisesWithin b c xs → suc k < length xs
    → get_or xs k 0 < get_or xs (suc k) 0
next_rises b c [] k h l = absurd (omega arith)
next_rises b c (x ∷ []) k h l = absurd (omega arith)
next_rises b c (x ∷ (y ∷ xs)) zero h l = let m = (h.1).0 in omega arith
next_rises b c (x ∷ (y ∷ xs)) (suc k) h l = next_rises (suc x) c (y ∷ xs) k h.1 (omega arith)

pub strictly : (b c : ℕ) (xs : List ℕ) → RisesWithin b c xs → IsStrictlyIncreasing xs
strictly b c xs h k l = rw add-one (next_rises b c xs k h (omega arith))

-- Edges in order

less : (x y : ℕ) → x < y → nat_cmp x y ≡ Less
less x y l = cond-true (nat_lt x y) Less (cond (nat_eq x y) Equal Greater) (lt-ltb x y l)

equal : (x y : ℕ) → x ≡ y → nat_cmp x y ≡ Equal
equal x y e = cond-false (nat_lt x y) Less (cond (nat_eq x y) Equal Greater) (le-ltb x y (omega arith))
    ∙ cond-true (nat_eq x y) Equal Greater (eq-eqb x y e)

first_differs : (x y : ℕ) (o : Ordering) → is_lt (ordering_then (nat_cmp x y) o) ≡ false
    → (y < x) ⊎ ((y ≡ x) × (is_lt o ≡ false))
first_differs x y o h = elim (cases_order x y) [
  | inl e ↦ inr (sym e, sym (ap (λ c. is_lt (ordering_then c o)) (equal x y e)) ∙ h)
  | inr d ↦ elim d [
    | inl l ↦ absurd (false≢true (sym h ∙ ap (λ c. is_lt (ordering_then c o)) (less x y l)))
    | inr g ↦ inl g
  ]
]

last_differs : (x y : ℕ) → is_lt (nat_cmp x y) ≡ false → (y < x) ⊎ (y ≡ x)
last_differs x y h = elim (cases_order x y) [
  | inl e ↦ inr (sym e)
  | inr d ↦ elim d [ inl l ↦ absurd (false≢true (sym h ∙ ap is_lt (less x y l))) | inr g ↦ inl g ]
]

same_edge : (d e : Edge) → d.from ≡ e.from → d.to ≡ e.to → d.node ≡ e.node → d ≡ e
same_edge d e p q r =
    let with_from : ℕ → Edge = λ x. record { from = x; to = d.to; node = d.node } in
    let with_to : ℕ → Edge = λ x. record { from = e.from; to = x; node = d.node } in
    let with_node : ℕ → Edge = λ x. record { from = e.from; to = e.to; node = x } in
    ap with_from p ∙ (ap with_to q ∙ ap with_node r)

before_or_same : (d e : Edge) → is_lt (ordering_then (nat_cmp e.from d.from)
    (ordering_then (nat_cmp e.to d.to) (nat_cmp e.node d.node))) ≡ false → IsBefore d e ⊎ (d ≡ e)
before_or_same d e h = elim
    (first_differs e.from d.from (ordering_then (nat_cmp e.to d.to) (nat_cmp e.node d.node)) h) [
      | inl l ↦ inl (inl l)
      | inr p ↦ elim (first_differs e.to d.to (nat_cmp e.node d.node) p.1) [
        | inl l ↦ inl (inr (p.0, inl l))
        | inr q ↦ elim (last_differs e.node d.node q.1) [
          | inl l ↦ inl (inr (p.0, inr (q.0, l)))
          | inr r ↦ inr (same_edge d e p.0 q.0 r)
        ]
      ]
    ]

-- How often an edge stands in a list

same : Edge → Edge → Bool
same d e = nat_eq d.from e.from && (nat_eq d.to e.to && nat_eq d.node e.node)

same_from : (d e : Edge) → d ≡ e → same d e ≡ true
unfolding same
same_from d e h =
    and_from _ _ (eq-eqb d.from e.from (ap (λ (x : Edge). x.from) h))
    (and_from _ _ (eq-eqb d.to e.to (ap (λ (x : Edge). x.to) h)) (eq-eqb d.node e.node (ap (λ (x : Edge). x.node) h)))

same_to : (d e : Edge) → same d e ≡ true → d ≡ e
unfolding same
same_to d e h =
    let p = and_parts (nat_eq d.from e.from) (nat_eq d.to e.to && nat_eq d.node e.node) h in
    let q = and_parts (nat_eq d.to e.to) (nat_eq d.node e.node) p.1 in
    same_edge d e (eqb-true d.from e.from p.0) (eqb-true d.to e.to q.0) (eqb-true d.node e.node q.1)

-- 1 where the test holds
abbrev one : Bool → ℕ
one true = 1
one false = 0

abbrev times : Edge → List Edge → ℕ
times e [] = 0
times e (x ∷ xs) = one (same x e) + times e xs

times-sum : (e : Edge) (xs : List Edge) → sum_by (λ d. one (same d e)) xs ≡ times e xs
times-sum e [] = refl
times-sum e (x ∷ xs) =
    sum_by-cons (λ d. one (same d e)) x xs ∙ ap (λ n. one (same x e) + n) (times-sum e xs)

times-permuted : (e : Edge) (xs ys : List Edge) → IsPermutation xs ys → times e ys ≡ times e xs
times-permuted e xs ys moved =
    sym (times-sum e ys) ∙ (sum_by-IsPermutation (λ d. one (same d e)) xs ys moved ∙ times-sum e xs)

one_here : (e d : Edge) → d ≡ e → one (same d e) ≡ 1
one_here e d h = ap one (same_from d e h)

times-none : (e : Edge) (xs : List Edge) → (OneOf xs e → ⊥) → times e xs ≡ 0
times-none e [] h = refl
times-none e (x ∷ xs) h = elim (cases_Bool (same x e)) [
  | inl here ↦ absurd (h (inl (same_to x e here)))
  | inr other ↦
      let a : one (same x e) ≡ 0 = ap one other in
      let b = times-none e xs (λ t. h (inr t)) in omega arith
]

times-once : (e : Edge) (xs : List Edge) → Distinct xs → times e xs ≤ 1
times-once e [] h = omega arith
times-once e (x ∷ xs) h = elim (cases_Bool (same x e)) [
  | inl here ↦
      let is : x ≡ e = same_to x e here in
      let a : one (same x e) ≡ 1 = ap one here in
      let b = times-none e xs (λ t. h.0 (subst (λ y. OneOf xs y) (sym is) t)) in omega arith
  | inr other ↦
      let a : one (same x e) ≡ 0 = ap one other in
      let b = times-once e xs h.1 in omega arith
]

times-twice : (e : Edge) (xs : List Edge) (k : ℕ) (d : Edge) → suc k < length xs → get_or xs k d ≡ e
    → get_or xs (suc k) d ≡ e → 2 ≤ times e xs
times-twice e [] k d l h g = absurd (omega arith)
times-twice e (x ∷ []) k d l h g = absurd (omega arith)
times-twice e (x ∷ (y ∷ xs)) zero d l h g =
    let a = one_here e x h in let b = one_here e y g in omega arith
times-twice e (x ∷ (y ∷ xs)) (suc k) d l h g = let b = times-twice e (y ∷ xs) k d (omega arith) h g in omega arith

-- what a sort of different edges gives
pub rise_after_sort : (xs ys : List Edge) → Distinct xs → IsPermutation xs ys
    → ((k : ℕ) (d : Edge) → 0 ≤ k → k + 1 < length ys → is_lt (ordering_then
    (nat_cmp (get_or ys (k + 1) d).from (get_or ys k d).from) (ordering_then
    (nat_cmp (get_or ys (k + 1) d).to (get_or ys k d).to)
    (nat_cmp (get_or ys (k + 1) d).node (get_or ys k d).node))) ≡ false)
    → AllAdjacentBelow IsBefore ys (length ys)
rise_after_sort xs ys once moved up k d l = elim
    (before_or_same (get_or ys k d) (get_or ys (k + 1) d) (up k d (omega arith) l)) [
      | inl before ↦ before
      | inr e ↦
          let x : Edge = get_or ys k d in
          let a : times x xs ≤ 1 = times-once x xs once in
          let b : times x ys ≡ times x xs = times-permuted x xs ys moved in
          let next : get_or ys (suc k) d ≡ x = rw add-one at (sym e) in
          let c : 2 ≤ times x ys = times-twice x ys k d (omega arith) refl next in
          absurd (omega arith)
    ]

-- what was listed and sorted are the edges of the tree
pub are_edges : (main : Tree) (edges : Edges) (listed : List Edge) → IsCounted main → edges.starts ≡ first_places main
    → listed ≡ follow_edges main → IsPermutation listed edges.follows
    → ((k : ℕ) (d : Edge) → 0 ≤ k → k + 1 < length edges.follows → is_lt (ordering_then
    (nat_cmp (get_or edges.follows (k + 1) d).from (get_or edges.follows k d).from) (ordering_then
    (nat_cmp (get_or edges.follows (k + 1) d).to (get_or edges.follows k d).to)
    (nat_cmp (get_or edges.follows (k + 1) d).node (get_or edges.follows k d).node))) ≡ false)
    → length (follow_edges main) ≤ 16384 → HasFewTerms main 256 → AreEdges main edges
are_edges main edges listed counted starts follows moved up few terms =
    let number : IsNumbered main = is_numbered main counted in
    let permuted : IsPermutation (follow_edges main) edges.follows =
    subst (λ xs. IsPermutation xs edges.follows) follows moved in
    let size : length edges.follows ≡ length (follow_edges main) =
    length_permutation (follow_edges main) edges.follows permuted in
    record {
      starts = λ p. subst (λ xs. Contains xs p ↔ IsFirstPlace main p) (sym starts) (firsts_exact main p);
      starts_rise = subst (λ xs. IsStrictlyIncreasing xs) (sym starts)
          (strictly 0 (0 + place_count main) (first_places main) (first_places-rise main 0 0 0 number));
      follows = λ d. follows_exact main edges.follows permuted d;
      follows_rise = rise_after_sort (follow_edges main) edges.follows (follow_edges-distinct main 0 0 0 number)
          permuted up;
      count = size;
      few = omega arith;
      few_terms = terms;
    }

-- no edge stands at two places of a list of different ones
one_of-at : (xs : List Edge) (i : ℕ) (d : Edge) → slice_get xs i ≡ Some d → OneOf xs d
one_of-at [] i d h = absurd (cc)
one_of-at (x ∷ xs) zero d h = inl (same_Some x d h)
one_of-at (x ∷ xs) (suc i) d h = inr (one_of-at xs i d h)

pub distinct-once : (xs : List Edge) (i j : ℕ) (d : Edge) → Distinct xs → slice_get xs i ≡ Some d
    → slice_get xs j ≡ Some d → i ≡ j
distinct-once [] i j d h a b = absurd (cc)
distinct-once (x ∷ xs) zero zero d h a b = refl
distinct-once (x ∷ xs) zero (suc j) d h a b =
    absurd (h.0 (subst (λ y. OneOf xs y) (sym (same_Some x d a)) (one_of-at xs j d b)))
distinct-once (x ∷ xs) (suc i) zero d h a b =
    absurd (h.0 (subst (λ y. OneOf xs y) (sym (same_Some x d b)) (one_of-at xs i d a)))
distinct-once (x ∷ xs) (suc i) (suc j) d h a b = ap suc (distinct-once xs i j d h.1 a b)
