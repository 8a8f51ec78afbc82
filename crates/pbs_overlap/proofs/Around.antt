-- In a numbered tree the scopes round a node are those in whose ranges its number lies.
use Rattle.std.proofs.Common.{◌≡◌, ℕ, zero, suc, ◌+◌, ◌<◌, ◌≤◌, true, cond, ◌⊎◌, inl, inr, List, [], ◌∷◌, ◌++◌}
use Rattle.std.proofs.Common.{length, Some, refl, sym, ◌∙◌, ap, subst, arith}
use Rattle.std.specs.Prelude.{nat_eq, nat_lt, slice_get}
use Rattle.std.proofs.lemmas.Bool.{and_parts, eq-eqb, ne_eqb, lt-ltb, le-ltb, cases_lt, cases_order, cond-true}
use Rattle.std.proofs.lemmas.Bool.{cond-false}
use Rattle.std.proofs.lemmas.Option.{same_Some}
use Rattle.pbs_ast.specs.Trees.{Tree, Empty, Terminal, Action, Seq, Choice, Star, Hold, Scope}
use Rattle.pbs_ast.specs.Sound.{visit_count, place_count, scope_count}
use Rattle.pbs_edges.specs.Edges.{Round, Body, Trap, Among}
use Rattle.pbs_edges.specs.inner.Rounds.{node_rounds}
use Rattle.pbs_edges.proofs.Numbering.{numbered}
use Rattle.pbs_edges.proofs.Rounds.{pair_parts, scope_parts}
use Rattle.pbs_overlap.specs.declared.ranges.ScopeRange.{ScopeRange}
use Rattle.pbs_overlap.specs.Ranges.{number_of, ranges}
use Rattle.pbs_overlap.proofs.Leaves.{own_number, length-ranges}

-- Elements of lists that follow one another

pub get-left : {A : Type 0} (xs ys : List A) (k : ℕ) (x : A) → slice_get xs k ≡ Some x → slice_get (xs ++ ys) k ≡ Some x
get-left [] ys k x h = absurd (cc)
get-left (y ∷ xs) ys zero x h = h
get-left (y ∷ xs) ys (suc k) x h = get-left xs ys k x h

pub get-right : {A : Type 0} (xs ys : List A) (k j : ℕ) (x : A) → k ≡ length xs + j → slice_get ys j ≡ Some x
    → slice_get (xs ++ ys) k ≡ Some x
get-right [] ys k j x e h = let same : k ≡ j = omega arith in subst (λ i. slice_get ys i ≡ Some x) (sym same) h
get-right (y ∷ xs) ys zero j x e h = absurd (omega arith)
get-right (y ∷ xs) ys (suc k) j x e h = get-right xs ys k j x (omega arith) h

pub get-cases : {A : Type 0} (xs ys : List A) (k : ℕ) (x : A) → slice_get (xs ++ ys) k ≡ Some x
    → ((k < length xs) × (slice_get xs k ≡ Some x)) ⊎ ((j : ℕ) × (k ≡ length xs + j) × (slice_get ys j ≡ Some x))
get-cases [] ys k x h = inr (k, omega arith, h)
get-cases (y ∷ xs) ys zero x h = inl (omega arith, h)
get-cases (y ∷ xs) ys (suc k) x h = elim (get-cases xs ys k x h) [
  | inl l ↦ inl (let m = l.0 in omega arith, l.1)
  | inr r ↦ inr (r.0, let m = r.1 in omega arith, r.2)
]

-- Ranges

abbrev pub scope_of : Round → ℕ
scope_of (Body s) = s
scope_of (Trap s) = s

-- the node lies in the body of the scope, or in its trap
abbrev pub LiesIn : Round → ScopeRange → ℕ → Type 0
LiesIn (Body s) r m = (r.body ≤ m) × (m < r.trap)
LiesIn (Trap s) r m = (r.trap ≤ m) × (m < r.after)

-- the tree's scope with this number has a range of which the node is one
pub record Inside (rs : List ScopeRange) (s0 m : ℕ) (q : Round) : Type 0 where
  pub index : ℕ
  pub range : ScopeRange
  pub found : slice_get rs index ≡ Some range
  pub scope : scope_of q ≡ s0 + index
  pub lies : LiesIn q range m

inside_left : (rs ts : List ScopeRange) (s0 m : ℕ) (q : Round) → Inside rs s0 m q → Inside (rs ++ ts) s0 m q
inside_left rs ts s0 m q i = record {
  index = i.index;
  range = i.range;
  found = get-left rs ts i.index i.range i.found;
  scope = i.scope;
  lies = i.lies;
}

inside_right : (rs ts : List ScopeRange) (s0 s1 m : ℕ) (q : Round) → s1 ≡ s0 + length rs → Inside ts s1 m q
    → Inside (rs ++ ts) s0 m q
inside_right rs ts s0 s1 m q e i = record {
  index = length rs + i.index;
  range = i.range;
  found = get-right rs ts (length rs + i.index) i.index i.range refl i.found;
  scope = let f = i.scope in omega arith;
  lies = i.lies;
}

inside_after : (r : ScopeRange) (rs : List ScopeRange) (s0 m : ℕ) (q : Round) → Inside rs (1 + s0) m q
    → Inside (r ∷ rs) s0 m q
inside_after r rs s0 m q i = record {
  index = suc i.index;
  range = i.range;
  found = i.found;
  scope = let f = i.scope in omega arith;
  lies = i.lies;
}

-- which of two parts a node lies in, where it isn't the tree's own
cut_node : {A : Type 0} (m n k : ℕ) (own x y z : A) → n + 1 ≤ m → cond (nat_eq m n) own (cond (nat_lt m k) x y) ≡ z
    → ((m < k) × (x ≡ z)) ⊎ ((k ≤ m) × (y ≡ z))
cut_node m n k own x y z low e =
    let deep : cond (nat_lt m k) x y ≡ z =
    sym (cond-false (nat_eq m n) own (cond (nat_lt m k) x y) (ne_eqb m n (λ q. omega arith))) ∙ e in
    elim (cases_lt m k) [
      | inl l ↦ inl (l, sym (cond-true (nat_lt m k) x y (lt-ltb m k l)) ∙ deep)
      | inr g ↦ inr (g, sym (cond-false (nat_lt m k) x y (le-ltb m k g)) ∙ deep)
    ]

-- nothing is round the tree's own node
own_none : (m n : ℕ) (x : List Round) (q : Round) → m ≡ n → Among (cond (nat_eq m n) [] x) q → ⊥
own_none m n x q e h = subst (λ rs. Among rs q) (cond-true (nat_eq m n) [] x (eq-eqb m n e)) h

-- the node isn't the tree's own where something is round it
not_own : (m n : ℕ) (x : List Round) (q : Round) → n ≤ m → Among (cond (nat_eq m n) [] x) q → n + 1 ≤ m
not_own m n x q low h = elim (cases_order m n) [
  | inl e ↦ absurd (own_none m n x q e h)
  | inr d ↦ elim d [ inl l ↦ absurd (omega arith) | inr g ↦ omega arith ]
]

inner : (m n : ℕ) (x : List Round) (q : Round) → n + 1 ≤ m → Among (cond (nat_eq m n) [] x) q → Among x q
inner m n x q low h =
    subst (λ rs. Among rs q) (cond-false (nat_eq m n) [] x (ne_eqb m n (λ e. omega arith))) h

-- the first part, or the second
parts_of : (m k : ℕ) (x y : List Round) (q : Round) → Among (cond (nat_lt m k) x y) q
    → ((m < k) × Among x q) ⊎ ((k ≤ m) × Among y q)
parts_of m k x y q h = elim (cases_lt m k) [
  | inl l ↦ inl (l, subst (λ rs. Among rs q) (cond-true (nat_lt m k) x y (lt-ltb m k l)) h)
  | inr g ↦ inr (g, subst (λ rs. Among rs q) (cond-false (nat_lt m k) x y (le-ltb m k g)) h)
]

pub inside_from_round : (e : Tree) (n b s m : ℕ) (q : Round) → numbered e n b s ≡ true → n ≤ m → m < n + visit_count e
    → Among (node_rounds e n m) q → Inside (ranges e) s m q
inside_from_round (Empty at) n b s m q g low high h = absurd h
inside_from_round (Terminal at p t) n b s m q g low high h = absurd h
inside_from_round (Action at a) n b s m q g low high h = absurd h
inside_from_round (Seq at e f) n b s m q g low high h =
    let c = pair_parts at e f n b s g in
    let deep = not_own m n _ q low h in
    elim (parts_of m (n + 1 + visit_count e) _ _ q (inner m n _ q deep h)) [
      | inl l ↦ inside_left (ranges e) (ranges f) s m q (inside_from_round e (n + 1) b s m q c.left deep l.0 l.1)
      | inr r ↦ inside_right (ranges e) (ranges f) s (s + scope_count e) m q
          (let k = length-ranges e in omega arith)
          (inside_from_round f (n + 1 + visit_count e) (b + place_count e) (s + scope_count e) m q c.right r.0
          (omega arith) r.1)
    ]
inside_from_round (Choice at e f) n b s m q g low high h =
    let c = pair_parts at e f n b s g in
    let deep = not_own m n _ q low h in
    elim (parts_of m (n + 1 + visit_count e) _ _ q (inner m n _ q deep h)) [
      | inl l ↦ inside_left (ranges e) (ranges f) s m q (inside_from_round e (n + 1) b s m q c.left deep l.0 l.1)
      | inr r ↦ inside_right (ranges e) (ranges f) s (s + scope_count e) m q
          (let k = length-ranges e in omega arith)
          (inside_from_round f (n + 1 + visit_count e) (b + place_count e) (s + scope_count e) m q c.right r.0
          (omega arith) r.1)
    ]
inside_from_round (Star at e) n b s m q g low high h =
    let deep = not_own m n _ q low h in
    inside_from_round e (n + 1) b s m q (and_parts (nat_eq at.number n) (numbered e (n + 1) b s) g).1 deep (omega arith)
    (inner m n _ q deep h)
inside_from_round (Hold at t e) n b s m q g low high h =
    let deep = not_own m n _ q low h in
    inside_from_round e (n + 1) b s m q (and_parts (nat_eq at.number n) (numbered e (n + 1) b s) g).1 deep (omega arith)
    (inner m n _ q deep h)
inside_from_round (Scope at t e x h) n b s m q g low high d =
    let c = scope_parts at t e x h n b s g in
    let deep = not_own m n _ q low d in
    let own : t ≡ s = c.scope in
    let number_e : number_of e ≡ n + 1 = own_number e (n + 1) b (1 + s) c.body in
    let number_x : number_of x ≡ n + 1 + visit_count e =
    own_number x (n + 1 + visit_count e) (b + place_count e) (1 + s + scope_count e) c.trap in
    let number_h : number_of h ≡ n + 1 + visit_count e + visit_count x =
    own_number h (n + 1 + visit_count e + visit_count x) (b + place_count e + place_count x)
    (1 + s + scope_count e + scope_count x) c.after in
    let here : ScopeRange = record { span = at.span; body = number_of e; trap = number_of x; after = number_of h } in
    let size_e = length-ranges e in
    let size_x = length-ranges x in
    elim (parts_of m (n + 1 + visit_count e) _ _ q (inner m n _ q deep d)) [
      | inl l ↦ elim l.1 [
        | inl is ↦ record {
          index = zero;
          range = here;
          found = refl;
          scope = subst (λ r. scope_of r ≡ s + zero) is (omega arith);
          lies = subst (λ r. LiesIn r here m) is (let lt = l.0 in (omega arith, omega arith));
        }
        | inr more ↦ inside_after here (ranges e ++ (ranges x ++ ranges h)) s m q
            (inside_left (ranges e) (ranges x ++ ranges h) (1 + s) m q
            (inside_from_round e (n + 1) b (1 + s) m q c.body deep l.0 more))
      ]
      | inr r ↦ elim (parts_of m (n + 1 + visit_count e + visit_count x) _ _ q r.1) [
        | inl l ↦ elim l.1 [
          | inl is ↦ record {
            index = zero;
            range = here;
            found = refl;
            scope = subst (λ r. scope_of r ≡ s + zero) is (omega arith);
            lies = subst (λ r. LiesIn r here m) is (let lt = l.0 in let ge = r.0 in (omega arith, omega arith));
          }
          | inr more ↦ inside_after here (ranges e ++ (ranges x ++ ranges h)) s m q
              (inside_right (ranges e) (ranges x ++ ranges h) (1 + s) (1 + s + scope_count e) m q (omega arith)
              (inside_left (ranges x) (ranges h) (1 + s + scope_count e) m q
              (inside_from_round x (n + 1 + visit_count e) (b + place_count e) (1 + s + scope_count e) m q c.trap r.0
              l.0 more)))
        ]
        | inr z ↦ inside_after here (ranges e ++ (ranges x ++ ranges h)) s m q
            (inside_right (ranges e) (ranges x ++ ranges h) (1 + s) (1 + s + scope_count e) m q (omega arith)
            (inside_right (ranges x) (ranges h) (1 + s + scope_count e) (1 + s + scope_count e + scope_count x) m q
            (omega arith)
            (inside_from_round h (n + 1 + visit_count e + visit_count x) (b + place_count e + place_count x)
            (1 + s + scope_count e + scope_count x) m q c.after z.0 (omega arith) z.1)))
      ]
    ]

-- the range of each scope is within the tree's
pub record Within (n k : ℕ) (r : ScopeRange) : Type 0 where
  pub low : n < r.body
  pub body : r.body < r.trap
  pub trap : r.trap < r.after
  pub high : r.after < k

visits_some : (e : Tree) → 1 ≤ visit_count e
visits_some (Empty at) = omega arith
visits_some (Terminal at p t) = omega arith
visits_some (Action at a) = omega arith
visits_some (Seq at e f) = omega arith
visits_some (Choice at e f) = omega arith
visits_some (Star at e) = omega arith
visits_some (Hold at t e) = omega arith
visits_some (Scope at s e x h) = omega arith

wider : (n k m l : ℕ) (r : ScopeRange) → m ≤ n → k ≤ l → Within n k r → Within m l r
wider n k m l r a b w = record {
  low = let x = w.low in omega arith;
  body = w.body;
  trap = w.trap;
  high = let x = w.high in omega arith;
}

pub range_within : (e : Tree) (n b s k : ℕ) (r : ScopeRange) → numbered e n b s ≡ true → slice_get (ranges e) k ≡ Some r
    → Within n (n + visit_count e) r
range_within (Empty at) n b s k r g h = absurd (cc)
range_within (Terminal at p t) n b s k r g h = absurd (cc)
range_within (Action at a) n b s k r g h = absurd (cc)
range_within (Seq at e f) n b s k r g h =
    let c = pair_parts at e f n b s g in
    elim (get-cases (ranges e) (ranges f) k r h) [
      | inl l ↦ wider (n + 1) (n + 1 + visit_count e) n (n + (1 + visit_count e + visit_count f)) r (omega arith)
          (omega arith) (range_within e (n + 1) b s k r c.left l.1)
      | inr m ↦ wider (n + 1 + visit_count e) (n + 1 + visit_count e + visit_count f) n
          (n + (1 + visit_count e + visit_count f)) r (omega arith) (omega arith)
          (range_within f (n + 1 + visit_count e) (b + place_count e) (s + scope_count e) m.0 r c.right m.2)
    ]
range_within (Choice at e f) n b s k r g h =
    let c = pair_parts at e f n b s g in
    elim (get-cases (ranges e) (ranges f) k r h) [
      | inl l ↦ wider (n + 1) (n + 1 + visit_count e) n (n + (1 + visit_count e + visit_count f)) r (omega arith)
          (omega arith) (range_within e (n + 1) b s k r c.left l.1)
      | inr m ↦ wider (n + 1 + visit_count e) (n + 1 + visit_count e + visit_count f) n
          (n + (1 + visit_count e + visit_count f)) r (omega arith) (omega arith)
          (range_within f (n + 1 + visit_count e) (b + place_count e) (s + scope_count e) m.0 r c.right m.2)
    ]
range_within (Star at e) n b s k r g h =
    wider (n + 1) (n + 1 + visit_count e) n (n + (1 + visit_count e)) r (omega arith) (omega arith)
    (range_within e (n + 1) b s k r (and_parts (nat_eq at.number n) (numbered e (n + 1) b s) g).1 h)
range_within (Hold at t e) n b s k r g h =
    wider (n + 1) (n + 1 + visit_count e) n (n + (1 + visit_count e)) r (omega arith) (omega arith)
    (range_within e (n + 1) b s k r (and_parts (nat_eq at.number n) (numbered e (n + 1) b s) g).1 h)
range_within (Scope at t e x h) n b s zero r g d =
    let c = scope_parts at t e x h n b s g in
    let number_e : number_of e ≡ n + 1 = own_number e (n + 1) b (1 + s) c.body in
    let number_x : number_of x ≡ n + 1 + visit_count e =
    own_number x (n + 1 + visit_count e) (b + place_count e) (1 + s + scope_count e) c.trap in
    let number_h : number_of h ≡ n + 1 + visit_count e + visit_count x =
    own_number h (n + 1 + visit_count e + visit_count x) (b + place_count e + place_count x)
    (1 + s + scope_count e + scope_count x) c.after in
    let a = visits_some e in
    let z = visits_some x in
    let y = visits_some h in
    let here : ScopeRange = record { span = at.span; body = number_of e; trap = number_of x; after = number_of h } in
    subst (λ r. Within n (n + (1 + visit_count e + visit_count x + visit_count h)) r) (same_Some here r d) (record {
      low = omega arith;
      body = omega arith;
      trap = omega arith;
      high = omega arith;
    })
range_within (Scope at t e x h) n b s (suc k) r g d =
    let c = scope_parts at t e x h n b s g in
    let whole : ℕ = n + (1 + visit_count e + visit_count x + visit_count h) in
    elim (get-cases (ranges e) (ranges x ++ ranges h) k r d) [
      | inl l ↦ wider (n + 1) (n + 1 + visit_count e) n (n + (1 + visit_count e + visit_count x + visit_count h)) r
          (omega arith) (omega arith) (range_within e (n + 1) b (1 + s) k r c.body l.1)
      | inr m ↦ elim (get-cases (ranges x) (ranges h) m.0 r m.2) [
        | inl l ↦ wider (n + 1 + visit_count e) (n + 1 + visit_count e + visit_count x) n
            (n + (1 + visit_count e + visit_count x + visit_count h)) r (omega arith) (omega arith)
            (range_within x (n + 1 + visit_count e) (b + place_count e) (1 + s + scope_count e) m.0 r c.trap l.1)
        | inr z ↦ wider (n + 1 + visit_count e + visit_count x)
            (n + 1 + visit_count e + visit_count x + visit_count h) n
            (n + (1 + visit_count e + visit_count x + visit_count h)) r (omega arith) (omega arith)
            (range_within h (n + 1 + visit_count e + visit_count x) (b + place_count e + place_count x)
            (1 + s + scope_count e + scope_count x) z.0 r c.after z.2)
      ]
    ]

-- in the range of a scope is what lies in its body or its trap
in_span : (n k m : ℕ) (r : ScopeRange) (q : Round) → Within n k r → LiesIn q r m → (n < m) × (m < k)
in_span n k m r (Body s) w l =
    let a = w.low in let b = w.trap in let c = w.high in let d = l.0 in let e = l.1 in (omega arith, omega arith)
in_span n k m r (Trap s) w l =
    let a = w.low in let b = w.body in let c = w.high in let d = l.0 in let e = l.1 in (omega arith, omega arith)

through : (m n k : ℕ) (x y : List Round) (q : Round) → n + 1 ≤ m → m < k → Among x q
    → Among (cond (nat_eq m n) [] (cond (nat_lt m k) x y)) q
through m n k x y q low high h =
    subst (λ rs. Among rs q) (sym (cond-false (nat_eq m n) [] (cond (nat_lt m k) x y) (ne_eqb m n (λ e. omega arith))
    ∙ cond-true (nat_lt m k) x y (lt-ltb m k high))) h

past : (m n k : ℕ) (x y : List Round) (q : Round) → n + 1 ≤ m → k ≤ m → Among y q
    → Among (cond (nat_eq m n) [] (cond (nat_lt m k) x y)) q
past m n k x y q low high h =
    subst (λ rs. Among rs q) (sym (cond-false (nat_eq m n) [] (cond (nat_lt m k) x y) (ne_eqb m n (λ e. omega arith))
    ∙ cond-false (nat_lt m k) x y (le-ltb m k high))) h

single : (m n : ℕ) (x : List Round) (q : Round) → n + 1 ≤ m → Among x q → Among (cond (nat_eq m n) [] x) q
single m n x q low h =
    subst (λ rs. Among rs q) (sym (cond-false (nat_eq m n) [] x (ne_eqb m n (λ e. omega arith)))) h

pub round_from_inside : (e : Tree) (n b s m k : ℕ) (q : Round) (r : ScopeRange) → numbered e n b s ≡ true
    → slice_get (ranges e) k ≡ Some r → scope_of q ≡ s + k → LiesIn q r m → Among (node_rounds e n m) q
round_from_inside (Empty at) n b s m k q r g h i l = absurd (cc)
round_from_inside (Terminal at p t) n b s m k q r g h i l = absurd (cc)
round_from_inside (Action at a) n b s m k q r g h i l = absurd (cc)
round_from_inside (Seq at e f) n b s m k q r g h i l =
    let c = pair_parts at e f n b s g in
    elim (get-cases (ranges e) (ranges f) k r h) [
      | inl w ↦
          let z = in_span (n + 1) (n + 1 + visit_count e) m r q (range_within e (n + 1) b s k r c.left w.1) l in
          through m n (n + 1 + visit_count e) _ _ q (let a = z.0 in omega arith) z.1
          (round_from_inside e (n + 1) b s m k q r c.left w.1 i l)
      | inr w ↦
          let z = in_span (n + 1 + visit_count e) (n + 1 + visit_count e + visit_count f) m r q
          (range_within f (n + 1 + visit_count e) (b + place_count e) (s + scope_count e) w.0 r c.right w.2) l in
          past m n (n + 1 + visit_count e) _ _ q (let a = z.0 in omega arith) (let a = z.0 in omega arith)
          (round_from_inside f (n + 1 + visit_count e) (b + place_count e) (s + scope_count e) m w.0 q r c.right w.2
          (let a = w.1 in let d = length-ranges e in omega arith) l)
    ]
round_from_inside (Choice at e f) n b s m k q r g h i l =
    let c = pair_parts at e f n b s g in
    elim (get-cases (ranges e) (ranges f) k r h) [
      | inl w ↦
          let z = in_span (n + 1) (n + 1 + visit_count e) m r q (range_within e (n + 1) b s k r c.left w.1) l in
          through m n (n + 1 + visit_count e) _ _ q (let a = z.0 in omega arith) z.1
          (round_from_inside e (n + 1) b s m k q r c.left w.1 i l)
      | inr w ↦
          let z = in_span (n + 1 + visit_count e) (n + 1 + visit_count e + visit_count f) m r q
          (range_within f (n + 1 + visit_count e) (b + place_count e) (s + scope_count e) w.0 r c.right w.2) l in
          past m n (n + 1 + visit_count e) _ _ q (let a = z.0 in omega arith) (let a = z.0 in omega arith)
          (round_from_inside f (n + 1 + visit_count e) (b + place_count e) (s + scope_count e) m w.0 q r c.right w.2
          (let a = w.1 in let d = length-ranges e in omega arith) l)
    ]
round_from_inside (Star at e) n b s m k q r g h i l =
    let c = (and_parts (nat_eq at.number n) (numbered e (n + 1) b s) g).1 in
    let z = in_span (n + 1) (n + 1 + visit_count e) m r q (range_within e (n + 1) b s k r c h) l in
    single m n _ q (let a = z.0 in omega arith) (round_from_inside e (n + 1) b s m k q r c h i l)
round_from_inside (Hold at t e) n b s m k q r g h i l =
    let c = (and_parts (nat_eq at.number n) (numbered e (n + 1) b s) g).1 in
    let z = in_span (n + 1) (n + 1 + visit_count e) m r q (range_within e (n + 1) b s k r c h) l in
    single m n _ q (let a = z.0 in omega arith) (round_from_inside e (n + 1) b s m k q r c h i l)
round_from_inside (Scope at t e x h) n b s m zero q r g d i l =
    let c = scope_parts at t e x h n b s g in
    let here : ScopeRange = record { span = at.span; body = number_of e; trap = number_of x; after = number_of h } in
    let number_e : number_of e ≡ n + 1 = own_number e (n + 1) b (1 + s) c.body in
    let number_x : number_of x ≡ n + 1 + visit_count e =
    own_number x (n + 1 + visit_count e) (b + place_count e) (1 + s + scope_count e) c.trap in
    let number_h : number_of h ≡ n + 1 + visit_count e + visit_count x =
    own_number h (n + 1 + visit_count e + visit_count x) (b + place_count e + place_count x)
    (1 + s + scope_count e + scope_count x) c.after in
    let scope : t ≡ scope_of q = let own = c.scope in omega arith in
    scope_round q (subst (λ r. LiesIn q r m) (sym (same_Some here r d)) l) scope number_e number_x number_h
  where
    scope_round : (q : Round) → LiesIn q
        (record { span = at.span; body = number_of e; trap = number_of x; after = number_of h }) m
        → t ≡ scope_of q → number_of e ≡ n + 1 → number_of x ≡ n + 1 + visit_count e
        → number_of h ≡ n + 1 + visit_count e + visit_count x → Among (node_rounds (Scope at t e x h) n m) q
    scope_round (Body u) l same e1 e2 e3 =
        through m n (n + 1 + visit_count e) _ _ (Body u) (let a = l.0 in omega arith) (let a = l.1 in omega arith)
        (inl (ap Body same))
    scope_round (Trap u) l same e1 e2 e3 =
        past m n (n + 1 + visit_count e) _ _ (Trap u) (let a = l.0 in omega arith) (let a = l.0 in omega arith)
        (subst (λ rs. Among rs (Trap u)) (sym (cond-true (nat_lt m (n + 1 + visit_count e + visit_count x)) _ _
        (lt-ltb m (n + 1 + visit_count e + visit_count x) (let a = l.1 in omega arith)))) (inl (ap Trap same)))
round_from_inside (Scope at t e x h) n b s m (suc k) q r g d i l =
    let c = scope_parts at t e x h n b s g in
    elim (get-cases (ranges e) (ranges x ++ ranges h) k r d) [
      | inl w ↦
          let z = in_span (n + 1) (n + 1 + visit_count e) m r q (range_within e (n + 1) b (1 + s) k r c.body w.1) l in
          through m n (n + 1 + visit_count e) _ _ q (let a = z.0 in omega arith) z.1
          (inr (round_from_inside e (n + 1) b (1 + s) m k q r c.body w.1 (omega arith) l))
      | inr w ↦ elim (get-cases (ranges x) (ranges h) w.0 r w.2) [
        | inl y ↦
            let z = in_span (n + 1 + visit_count e) (n + 1 + visit_count e + visit_count x) m r q
            (range_within x (n + 1 + visit_count e) (b + place_count e) (1 + s + scope_count e) w.0 r c.trap y.1) l in
            past m n (n + 1 + visit_count e) _ _ q (let a = z.0 in omega arith) (let a = z.0 in omega arith)
            (subst (λ rs. Among rs q) (sym (cond-true (nat_lt m (n + 1 + visit_count e + visit_count x)) _ _
            (lt-ltb m (n + 1 + visit_count e + visit_count x) z.1)))
            (inr (round_from_inside x (n + 1 + visit_count e) (b + place_count e)
            (1 + s + scope_count e) m w.0 q r c.trap
            y.1 (let a = w.1 in let d = length-ranges e in omega arith) l)))
        | inr y ↦
            let z = in_span (n + 1 + visit_count e + visit_count x)
            (n + 1 + visit_count e + visit_count x + visit_count h) m r q
            (range_within h (n + 1 + visit_count e + visit_count x) (b + place_count e + place_count x)
            (1 + s + scope_count e + scope_count x) y.0 r c.after y.2) l in
            past m n (n + 1 + visit_count e) _ _ q (let a = z.0 in omega arith) (let a = z.0 in omega arith)
            (subst (λ rs. Among rs q) (sym (cond-false (nat_lt m (n + 1 + visit_count e + visit_count x)) _ _
            (le-ltb m (n + 1 + visit_count e + visit_count x) (let a = z.0 in omega arith))))
            (round_from_inside h (n + 1 + visit_count e + visit_count x) (b + place_count e + place_count x)
            (1 + s + scope_count e + scope_count x) m y.0 q r c.after y.2
            (let a = w.1 in let f = y.1 in let d = length-ranges e in let j = length-ranges x in omega arith) l))
      ]
    ]
