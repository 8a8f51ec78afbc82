-- Two places have the same signature exactly where a start edge leads to both or neither, and the edges to them leave
-- the same places by the same nodes.
use Rattle.std.proofs.Common.{◌≡◌, ℕ, suc, ◌<◌, ◌⊎◌, inl, inr, Bool, true, false, List, []}
use Rattle.std.proofs.Common.{◌∷◌, ◌++◌, length, get_or, refl, sym, ◌∙◌, ap, subst, arith, add-one}
use Rattle.std.specs.Prelude.{nat_eq, if◌then◌else◌}
use Rattle.std.specs.List.{AllAdjacentBelow}
use Rattle.std.proofs.lemmas.Bool.{cases_Bool, eqb-true, eq-eqb}
use Rattle.std.proofs.lemmas.Bool.{or_cases, or_left, or_right, false≢true}
use Rattle.pbs_edges.specs.declared.edge.Edge.{Edge}
use Rattle.pbs_edges.specs.Found.{IsBefore}
use Rattle.pbs_edges.proofs.Listed.{OneOf, numbers}
use Rattle.pbs_codes.specs.inner.Signatures.{is_start, start_number, sources, signature}

-- r and n stand side by side in the list
abbrev pub HasPair : List ℕ → (r n : ℕ) → Type 0
HasPair [] r n = ⊥
HasPair (a ∷ []) r n = ⊥
HasPair (a ∷ (b ∷ xs)) r n = ((a ≡ r) × (b ≡ n)) ⊎ HasPair xs r n

abbrev pub PairBefore : (a b c d : ℕ) → Type 0
PairBefore a b c d = (a < c) ⊎ ((a ≡ c) × (b < d))

-- a list of pairs, each before all later ones
abbrev pub PairsRise : List ℕ → Type 0
PairsRise [] = Unit {0}
PairsRise (a ∷ []) = ⊥
PairsRise (a ∷ (b ∷ xs)) = ((r n : ℕ) → HasPair xs r n → PairBefore a b r n) × PairsRise xs

not-before_itself : (a b : ℕ) → PairBefore a b a b → ⊥
not-before_itself a b h = elim h [ inl l ↦ omega arith | inr e ↦ let l = e.1 in omega arith ]

not-both_ways : (a b c d : ℕ) → PairBefore a b c d → PairBefore c d a b → ⊥
not-both_ways a b c d h g = elim h [
  | inl l ↦ elim g [ inl m ↦ omega arith | inr e ↦ let f : c ≡ a = e.0 in omega arith ]
  | inr e ↦
      let same : a ≡ c = e.0 in
      let low : b < d = e.1 in
      elim g [ inl m ↦ omega arith | inr f ↦ let up : d < b = f.1 in omega arith ]
]

-- rising lists with the same pairs are equal
pub same_pairs : (xs ys : List ℕ) → PairsRise xs → PairsRise ys → ((r n : ℕ) → HasPair xs r n → HasPair ys r n)
    → ((r n : ℕ) → HasPair ys r n → HasPair xs r n) → xs ≡ ys
same_pairs [] [] h g to back = refl
same_pairs [] (c ∷ []) h g to back = absurd g
same_pairs [] (c ∷ (d ∷ ys)) h g to back = absurd (back c d (inl (refl, refl)))
same_pairs (a ∷ []) ys h g to back = absurd h
same_pairs (a ∷ (b ∷ xs)) [] h g to back = absurd (to a b (inl (refl, refl)))
same_pairs (a ∷ (b ∷ xs)) (c ∷ []) h g to back = absurd g
same_pairs (a ∷ (b ∷ xs)) (c ∷ (d ∷ ys)) h g to back =
    let head : (c ≡ a) × (d ≡ b) = elim (to a b (inl (refl, refl))) [
      | inl e ↦ e
      | inr later ↦ elim (back c d (inl (refl, refl))) [
        | inl e ↦ (sym e.0, sym e.1)
        | inr after ↦ absurd (not-both_ways a b c d (h.0 c d after) (g.0 a b later))
      ]
    ] in
    let rest : xs ≡ ys = same_pairs xs ys h.1 g.1
    (λ r n m. elim (to r n (inr m)) [
      | inl e ↦ absurd (not-before_itself a b (subst (λ y. PairBefore a b a y) (sym e.1 ∙ head.1)
          (subst (λ x. PairBefore a b x n) (sym e.0 ∙ head.0) (h.0 r n m))))
      | inr t ↦ t
    ])
    (λ r n m. elim (back r n (inr m)) [
      | inl e ↦ absurd (not-before_itself c d (subst (λ y. PairBefore c d c y) (sym e.1 ∙ sym head.1)
          (subst (λ x. PairBefore c d x n) (sym e.0 ∙ sym head.0) (g.0 r n m))))
      | inr t ↦ t
    ]) in
    ap (λ x. x ∷ (b ∷ xs)) (sym head.0) ∙ (ap (λ y. c ∷ (y ∷ xs)) (sym head.1) ∙ ap (λ zs. c ∷ (d ∷ zs)) rest)

-- The sources of a place

abbrev added : Bool → Edge → List ℕ → List ℕ
added b d xs = (if b then d.from ∷ (d.node ∷ []) else []) ++ xs

numbers_of : (d : Edge) (r p n : ℕ) → d.from ≡ r → d.to ≡ p → d.node ≡ n → d ≡ numbers r p n
numbers_of d r p n a b c =
    let with_from : ℕ → Edge = λ x. record { from = x; to = d.to; node = d.node } in
    let with_to : ℕ → Edge = λ x. record { from = r; to = x; node = d.node } in
    let with_node : ℕ → Edge = λ x. record { from = r; to = p; node = x } in
    ap with_from a ∙ (ap with_to b ∙ ap with_node c)

pub pair_from : (edges : List Edge) (r p n : ℕ) → OneOf edges (numbers r p n) → HasPair (sources edges p) r n
pair_from [] r p n h = absurd h
pair_from (d ∷ edges) r p n h = elim h [
  | inl e ↦
      let here : nat_eq d.to p ≡ true = eq-eqb d.to p (ap (λ (x : Edge). x.to) e) in
      subst (λ b. HasPair (added b d (sources edges p)) r n) (sym here)
      (inl (ap (λ (x : Edge). x.from) e, ap (λ (x : Edge). x.node) e))
  | inr m ↦
      let later : HasPair (sources edges p) r n = pair_from edges r p n m in
      elim (cases_Bool (nat_eq d.to p)) [
        | inl hits ↦ subst (λ b. HasPair (added b d (sources edges p)) r n) (sym hits) (inr later)
        | inr misses ↦ subst (λ b. HasPair (added b d (sources edges p)) r n) (sym misses) later
      ]
]

pub pair_to : (edges : List Edge) (r p n : ℕ) → HasPair (sources edges p) r n → OneOf edges (numbers r p n)
pair_to [] r p n h = absurd h
pair_to (d ∷ edges) r p n h = elim (cases_Bool (nat_eq d.to p)) [
  | inl hits ↦
      let here : HasPair (added true d (sources edges p)) r n =
      subst (λ b. HasPair (added b d (sources edges p)) r n) hits h in
      elim here [
        | inl e ↦ inl (numbers_of d r p n e.0 (eqb-true d.to p hits) e.1)
        | inr m ↦ inr (pair_to edges r p n m)
      ]
  | inr misses ↦
      let later : HasPair (added false d (sources edges p)) r n =
      subst (λ b. HasPair (added b d (sources edges p)) r n) misses h in
      inr (pair_to edges r p n later)
]

-- Sorted edges

before_trans : (c d e : Edge) → IsBefore c d → IsBefore d e → IsBefore c e
before_trans c d e h g = elim h [
  | inl l ↦ elim g [ inl m ↦ inl (omega arith) | inr m ↦ let s = m.0 in inl (omega arith) ]
  | inr l ↦ let same : c.from ≡ d.from = l.0 in elim g [
    | inl m ↦ inl (omega arith)
    | inr m ↦ let next : d.from ≡ e.from = m.0 in elim l.1 [
      | inl a ↦ elim m.1 [
        | inl b ↦ inr (same ∙ next, inl (omega arith))
        | inr b ↦ let to = b.0 in inr (same ∙ next, inl (omega arith))
      ]
      | inr a ↦ let to : c.to ≡ d.to = a.0 in let low = a.1 in elim m.1 [
        | inl b ↦ inr (same ∙ next, inl (omega arith))
        | inr b ↦ let high = b.1 in inr (same ∙ next, inr (to ∙ b.0, omega arith))
      ]
    ]
  ]
]

-- each edge is before all later ones
abbrev pub EdgesRise : List Edge → Type 0
EdgesRise [] = Unit {0}
EdgesRise (d ∷ edges) = ((e : Edge) → OneOf edges e → IsBefore d e) × EdgesRise edges

adjacent_rest : (d : Edge) (edges : List Edge) → AllAdjacentBelow IsBefore (d ∷ edges) (suc (length edges))
    → AllAdjacentBelow IsBefore edges (length edges)
adjacent_rest d edges h = λ k x l. rw add-one (rw add-one at (h (suc k) x (omega arith)))

pub edges_rise : (edges : List Edge) → AllAdjacentBelow IsBefore edges (length edges) → EdgesRise edges
edges_rise [] h = tt
edges_rise (d ∷ []) h = (λ e m. absurd m, tt)
edges_rise (d ∷ (c ∷ edges)) h =
    let rest = edges_rise (c ∷ edges) (adjacent_rest d (c ∷ edges) h) in
    let first : IsBefore d c = h 0 d (omega arith) in (
      λ e m. elim m [
        | inl same ↦ subst (λ (x : Edge). IsBefore d x) same first
        | inr later ↦ before_trans d c e first (rest.0 e later)
      ],
      rest,
    )

pub sources_rise : (edges : List Edge) (p : ℕ) → EdgesRise edges → PairsRise (sources edges p)
sources_rise [] p h = tt
sources_rise (d ∷ edges) p h = elim (cases_Bool (nat_eq d.to p)) [
  | inl hits ↦
      let to : d.to ≡ p = eqb-true d.to p hits in
      subst (λ b. PairsRise (added b d (sources edges p))) (sym hits) (
        λ r n m. elim (h.0 (numbers r p n) (pair_to edges r p n m)) [
          | inl l ↦ inl l
          | inr e ↦ elim e.1 [ inl l ↦ absurd (omega arith) | inr f ↦ inr (e.0, f.1) ]
        ],
        sources_rise edges p h.1,
      )
  | inr misses ↦ subst (λ b. PairsRise (added b d (sources edges p))) (sym misses) (sources_rise edges p h.1)
]

-- Starts

pub start_to : (starts : List ℕ) (p : ℕ) → is_start starts p ≡ true → OneOf starts p
start_to [] p h = absurd (false≢true h)
start_to (q ∷ starts) p h = elim (or_cases (nat_eq q p) (is_start starts p) h) [
  | inl e ↦ inl (eqb-true q p e)
  | inr m ↦ inr (start_to starts p m)
]

pub start_from : (starts : List ℕ) (p : ℕ) → OneOf starts p → is_start starts p ≡ true
start_from [] p h = absurd h
start_from (q ∷ starts) p h = elim h [
  | inl e ↦ or_left (nat_eq q p) (is_start starts p) (eq-eqb q p e)
  | inr m ↦ or_right (nat_eq q p) (is_start starts p) (start_from starts p m)
]

abbrev number_of : Bool → ℕ
number_of b = if b then 1 else 0

same_number : (b c : Bool) → number_of b ≡ number_of c → b ≡ c
same_number true true e = refl
same_number false false e = refl
same_number true false e = absurd (omega arith)
same_number false true e = absurd (omega arith)

module _ (starts : List ℕ) (edges : List Edge) (p q : ℕ) where
  pub starts_same : signature starts edges p ≡ signature starts edges q → is_start starts p ≡ is_start starts q
  starts_same e = same_number (is_start starts p) (is_start starts q) (ap (λ xs. get_or xs 0 0) e)

  pub sources_same : signature starts edges p ≡ signature starts edges q → sources edges p ≡ sources edges q
  sources_same e = cc

  pub signature_same : is_start starts p ≡ is_start starts q → sources edges p ≡ sources edges q
      → signature starts edges p ≡ signature starts edges q
  signature_same e f = ap (λ b. start_number b ++ sources edges p) e
      ∙ ap (λ xs. start_number (is_start starts q) ++ xs) f
