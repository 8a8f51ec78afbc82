-- What a step tells of its edge.
use Rattle.std.proofs.Common.{◌≡◌, ℕ, ◌+◌, ◌<◌, ◌≤◌, Bool, true, false, not, inl, inr, Option, Some, None}
use Rattle.std.proofs.Common.{get_or, sym, ◌∙◌, subst, arith}
use Rattle.std.specs.Prelude.{nat_le, nat_lt, slice_get}
use Rattle.std.proofs.lemmas.Bool.{false≢true, and_parts, and_from, not-true, not_from_false, cases_Bool, cases_lt}
use Rattle.std.proofs.lemmas.Bool.{cases_order, both_ways, leb-true, ltb-true, le-leb, lt-ltb, eq-eqb, eqb-true}
use Rattle.std.proofs.lemmas.Bool.{false_from_ne_true, cond-true, cond-false}
use Rattle.std.proofs.lemmas.Option.{same_Some}
use Rattle.pbs_ast.specs.Trees.{Tree}
use Rattle.pbs_ast.specs.Sound.{visit_count, place_count, scopes_right}
use Rattle.pbs_edges.specs.declared.edge.Edge.{Edge}
use Rattle.pbs_edges.specs.Edges.{Round, Body, Trap, Among}
use Rattle.pbs_edges.specs.inner.Rounds.{place_rounds, node_rounds}
use Rattle.pbs_edges.specs.inner.ByNumber.{PlaceInBody, PlaceInTrap, NodeInBody, NodeInTrap, AbortsByNumber}
use Rattle.pbs_edges.specs.inner.ByNumber.{EntersByNumber}
use Rattle.pbs_edges.specs.inner.ByNumber.{LeavesByNumber, AbortsAgreeByNumber}
use Rattle.pbs_edges.proofs.Numbering.{IsNumbered}
use Rattle.pbs_overlap.specs.declared.ranges.ScopeRange.{ScopeRange}
use Rattle.pbs_overlap.specs.declared.steps.Region.{Region}
use Rattle.pbs_overlap.specs.declared.steps.Step.{Step}
use Rattle.pbs_overlap.specs.Ranges.{leaves, ranges}
use Rattle.pbs_overlap.specs.inner.Steps.{is_within, aborts_range, enters_range, IsAborted, IsEntered, is_region}
use Rattle.pbs_overlap.specs.inner.Steps.{aborts_scope, region_clash, clash, region_refused, refused_scope}
use Rattle.pbs_overlap.specs.inner.Stepping.{IsStep}
use Rattle.pbs_overlap.proofs.Leaves.{at_leaf}
use Rattle.pbs_overlap.proofs.Around.{Within, Inside, inside_from_round, round_from_inside, range_within}
use Rattle.pbs_overlap.proofs.Laminar.{nested}

pub within_to : (m a b : ℕ) → is_within m a b ≡ true → (a ≤ m) × (m < b)
within_to m a b h =
    let p = and_parts (nat_le a m) (nat_lt m b) h in (leb-true a m p.0, ltb-true m b p.1)

within_from : (m a b : ℕ) → a ≤ m → m < b → is_within m a b ≡ true
within_from m a b low high = and_from (nat_le a m) (nat_lt m b) (le-leb a m low) (lt-ltb m b high)

not_true : (b : Bool) → (b ≡ true → ⊥) → not b ≡ true
not_true b f = not_from_false b (false_from_ne_true b f)

true_not : (b : Bool) → not b ≡ true → b ≡ true → ⊥
true_not b h t = both_ways b (not-true b h) t

module _ (main : Tree) (number : IsNumbered main) (right : scopes_right main ≡ true) where
  -- the scope with this number has this range
  abbrev pub Has : ℕ → ScopeRange → Type 0
  Has s r = slice_get (ranges main) s ≡ Some r

  leaf : ℕ → ℕ
  leaf p = get_or (leaves main) p 0

  range_of : (m s : ℕ) (q : Round) (i : Inside (ranges main) 0 m q) → (s ≡ 0 + i.index) → Has s i.range
  range_of m s q i e = let same : s ≡ i.index = omega arith in subst (λ k. Has k i.range) (sym same) i.found

  -- A node in a body or a trap

  pub body_to : (m s : ℕ) → m < visit_count main → NodeInBody main m s
      → (r : ScopeRange) × Has s r × (r.body ≤ m) × (m < r.trap)
  body_to m s l h =
      let i = inside_from_round main 0 0 0 m (Body s) number (omega arith) (omega arith) h in
      (i.range, range_of m s (Body s) i i.scope, (i.lies).0, (i.lies).1)

  body_from : (m s : ℕ) (r : ScopeRange) → Has s r → r.body ≤ m → m < r.trap → NodeInBody main m s
  body_from m s r has low high =
      round_from_inside main 0 0 0 m s (Body s) r number has (omega arith) (low, high)

  trap_to : (m s : ℕ) → m < visit_count main → NodeInTrap main m s
      → (r : ScopeRange) × Has s r × (r.trap ≤ m) × (m < r.after)
  trap_to m s l h =
      let i = inside_from_round main 0 0 0 m (Trap s) number (omega arith) (omega arith) h in
      (i.range, range_of m s (Trap s) i i.scope, (i.lies).0, (i.lies).1)

  trap_from : (m s : ℕ) (r : ScopeRange) → Has s r → r.trap ≤ m → m < r.after → NodeInTrap main m s
  trap_from m s r has low high =
      round_from_inside main 0 0 0 m s (Trap s) r number has (omega arith) (low, high)

  ordered : (s : ℕ) (r : ScopeRange) → Has s r → Within 0 (0 + visit_count main) r
  ordered s r has = range_within main 0 0 0 s r number has

  same_range : (s : ℕ) (r t : ScopeRange) → Has s r → Has s t → r ≡ t
  same_range s r t a b = same_Some r t (sym a ∙ b)

  -- A place lies where its leaf does

  leaf_rounds : (p : ℕ) → p < place_count main → place_rounds main 0 p ≡ node_rounds main 0 (leaf p)
  unfolding leaf
  leaf_rounds p l =
      let same : 0 + p ≡ p = omega arith in
      subst (λ q. place_rounds main 0 q ≡ node_rounds main 0 (get_or (leaves main) p 0)) same
      (at_leaf main 0 0 0 p number l).rounds

  leaf_there : (p : ℕ) → p < place_count main → leaf p < visit_count main
  unfolding leaf
  leaf_there p l = let h = (at_leaf main 0 0 0 p number l).high in omega arith

  place_body_to : (p s : ℕ) → p < place_count main → PlaceInBody main p s → NodeInBody main (leaf p) s
  place_body_to p s l h = subst (λ rs. Among rs (Body s)) (leaf_rounds p l) h

  place_trap_to : (p s : ℕ) → p < place_count main → PlaceInTrap main p s → NodeInTrap main (leaf p) s
  place_trap_to p s l h = subst (λ rs. Among rs (Trap s)) (leaf_rounds p l) h

  place_body_from : (p s : ℕ) → p < place_count main → NodeInBody main (leaf p) s → PlaceInBody main p s
  place_body_from p s l h = subst (λ rs. Among rs (Body s)) (sym (leaf_rounds p l)) h

  place_trap_from : (p s : ℕ) → p < place_count main → NodeInTrap main (leaf p) s → PlaceInTrap main p s
  place_trap_from p s l h = subst (λ rs. Among rs (Trap s)) (sym (leaf_rounds p l)) h

  -- in the body or in the trap, by one range

  leaves_to : (p s : ℕ) → p < place_count main → LeavesByNumber main p s
      → (r : ScopeRange) × Has s r × (r.body ≤ leaf p) × (leaf p < r.after)
  leaves_to p s l h = elim h [
    | inl b ↦
        let w = body_to (leaf p) s (leaf_there p l) (place_body_to p s l b) in
        let o = (ordered s w.0 w.1).trap in
        (w.0, w.1, w.2, let x = w.3 in omega arith)
    | inr t ↦
        let w = trap_to (leaf p) s (leaf_there p l) (place_trap_to p s l t) in
        let o = (ordered s w.0 w.1).body in
        (w.0, w.1, let x = w.2 in omega arith, w.3)
  ]

  leaves_from : (p s : ℕ) (r : ScopeRange) → p < place_count main → Has s r → r.body ≤ leaf p → leaf p < r.after
      → LeavesByNumber main p s
  leaves_from p s r l has low high = elim (cases_lt (leaf p) r.trap) [
    | inl b ↦ inl (place_body_from p s l (body_from (leaf p) s r has low b))
    | inr t ↦ inr (place_trap_from p s l (trap_from (leaf p) s r has t high))
  ]

  -- Aborts

  aborts_to : (p n s : ℕ) → p < place_count main → n < visit_count main → AbortsByNumber main p n s
      → (r : ScopeRange) × Has s r × (aborts_range (leaf p) n r ≡ true)
  aborts_to p n s l m h =
      let w = trap_to (leaf p) s (leaf_there p l) (place_trap_to p s l h.0) in (
        w.0,
        w.1,
        and_from (is_within (leaf p) (w.0).trap (w.0).after) (not (is_within n (w.0).trap (w.0).after))
            (within_from (leaf p) (w.0).trap (w.0).after w.2 w.3)
            (not_true (is_within n (w.0).trap (w.0).after) (λ t.
            let z = within_to n (w.0).trap (w.0).after t in h.1 (trap_from n s w.0 w.1 z.0 z.1))),
      )

  aborts_from : (p n s : ℕ) (r : ScopeRange) → p < place_count main → n < visit_count main → Has s r
      → aborts_range (leaf p) n r ≡ true → AbortsByNumber main p n s
  aborts_from p n s r l m has h =
      let a = and_parts (is_within (leaf p) r.trap r.after) (not (is_within n r.trap r.after)) h in
      let z = within_to (leaf p) r.trap r.after a.0 in (
        place_trap_from p s l (trap_from (leaf p) s r has z.0 z.1),
        λ t.
            let w = trap_to n s m t in
            let same : w.0 ≡ r = same_range s w.0 r w.1 has in
            true_not (is_within n r.trap r.after) a.1
            (subst (λ q. is_within n q.trap q.after ≡ true) same (within_from n (w.0).trap (w.0).after w.2 w.3)),
      )

  -- no place lies in two traps
  one_trap : (s t m : ℕ) (r q : ScopeRange) → Has s r → Has t q → s < t → r.trap ≤ m → m < r.after → q.trap ≤ m
      → m < q.after → ⊥
  one_trap s t m r q a b less low high low' high' =
      let o = ordered t q b in
      let w = o.body in
      elim (nested main 0 0 0 s t r q right number less a b) [
        | inl n ↦ let z = n.1 in omega arith
        | inr n ↦ omega arith
      ]

  aborts_once : (p n s t : ℕ) → p < place_count main → n < visit_count main → AbortsByNumber main p n s
      → AbortsByNumber main p n t → s ≡ t
  aborts_once p n s t l m h g =
      let a = trap_to (leaf p) s (leaf_there p l) (place_trap_to p s l h.0) in
      let b = trap_to (leaf p) t (leaf_there p l) (place_trap_to p t l g.0) in
      elim (cases_order s t) [
        | inl e ↦ e
        | inr d ↦ elim d [
          | inl less ↦ absurd (one_trap s t (leaf p) a.0 b.0 a.1 b.1 less a.2 a.3 b.2 b.3)
          | inr more ↦ absurd (one_trap t s (leaf p) b.0 a.0 b.1 a.1 more b.2 b.3 a.2 a.3)
        ]
      ]

  -- Enters

  enters_to : (p n s : ℕ) → p < place_count main → n < visit_count main → EntersByNumber main p n s
      → (r : ScopeRange) × Has s r × (enters_range (leaf p) n r ≡ true)
  enters_to p n s l m h =
      let w = leaves_to p s l h.0 in (
        w.0,
        w.1,
        and_from (is_within (leaf p) (w.0).body (w.0).after) (not (is_within n (w.0).body (w.0).after))
            (within_from (leaf p) (w.0).body (w.0).after w.2 w.3)
            (not_true (is_within n (w.0).body (w.0).after) (λ t.
            let z = within_to n (w.0).body (w.0).after t in
            elim (cases_lt n (w.0).trap) [
              | inl b ↦ h.1 (body_from n s w.0 w.1 z.0 b)
              | inr c ↦ h.2 (trap_from n s w.0 w.1 c z.1)
            ])),
      )

  enters_from : (p n s : ℕ) (r : ScopeRange) → p < place_count main → n < visit_count main → Has s r
      → enters_range (leaf p) n r ≡ true → EntersByNumber main p n s
  enters_from p n s r l m has h =
      let a = and_parts (is_within (leaf p) r.body r.after) (not (is_within n r.body r.after)) h in
      let z = within_to (leaf p) r.body r.after a.0 in
      let o = ordered s r has in
      let one = o.body in
      let two = o.trap in (
        leaves_from p s r l has z.0 z.1,
        (λ b.
            let w = body_to n s m b in
            let same : w.0 ≡ r = same_range s w.0 r w.1 has in
            let low : r.body ≤ n = subst (λ q. q.body ≤ n) same w.2 in
            let high : n < r.trap = subst (λ q. n < q.trap) same w.3 in
            true_not (is_within n r.body r.after) a.1 (within_from n r.body r.after low (omega arith))),
        (λ b.
            let w = trap_to n s m b in
            let same : w.0 ≡ r = same_range s w.0 r w.1 has in
            let low : r.trap ≤ n = subst (λ q. q.trap ≤ n) same w.2 in
            let high : n < r.after = subst (λ q. n < q.after) same w.3 in
            true_not (is_within n r.body r.after) a.1 (within_from n r.body r.after (omega arith) high)),
      )

  -- The regions of a step

  region_of : (p n s : ℕ) (o : Option Region) → p < place_count main → n < visit_count main
      → IsAborted (ranges main) (leaf p) n o → is_region o s ≡ true → AbortsByNumber main p n s
  region_of p n s None l m a h = absurd (false≢true h)
  region_of p n s (Some x) l m a h =
      subst (λ k. AbortsByNumber main p n k) (eqb-true x.scope s h)
      (aborts_from p n x.scope a.0 l m (a.1).found (a.1).passes)

  region_is : (p n s : ℕ) (o : Option Region) → p < place_count main → n < visit_count main
      → IsAborted (ranges main) (leaf p) n o → AbortsByNumber main p n s → is_region o s ≡ true
  region_is p n s None l m a h = let w = aborts_to p n s l m h in absurd (a s w.0 w.1 w.2)
  region_is p n s (Some x) l m a h =
      eq-eqb x.scope s (aborts_once p n x.scope s l m (aborts_from p n x.scope a.0 l m (a.1).found (a.1).passes) h)

  -- a follow edge's places and node are the tree's
  pub record IsEdgeOf (d : Edge) : Type 0 where
    pub from : d.from < place_count main
    pub to : d.to < place_count main
    pub node : d.node < visit_count main

  module _ (d e : Edge) (y : Step) (in_d : IsEdgeOf d) (in_e : IsEdgeOf e) (leaf_e : y.leaf ≡ leaf e.from)
      (aborts_e : IsAborted (ranges main) (leaf e.from) e.node y.aborts) where
    agree_where : (o : Option Region) → IsAborted (ranges main) (leaf d.from) d.node o → region_clash o y ≡ false
        → AbortsAgreeByNumber main d e
    agree_where None a h s aborts leaving keeps =
        let w = aborts_to d.from d.node s in_d.from in_d.node aborts in a s w.0 w.1 w.2
    agree_where (Some x) a h s aborts leaving keeps =
        let own = aborts_from d.from d.node x.scope a.0 in_d.from in_d.node (a.1).found (a.1).passes in
        let same : x.scope ≡ s = aborts_once d.from d.node x.scope s in_d.from in_d.node own aborts in
        let w = leaves_to e.from s in_e.from leaving in
        let r : w.0 ≡ a.0 = same_range s w.0 a.0 w.1 (subst (λ k. Has k a.0) same (a.1).found) in
        let low : x.first ≤ y.leaf =
        subst (λ k. x.first ≤ k) (sym leaf_e)
        (subst (λ k. k ≤ leaf e.from) (sym a.2) (subst (λ q. q.body ≤ leaf e.from) r w.2)) in
        let high : y.leaf < x.end =
        subst (λ k. k < x.end) (sym leaf_e)
        (subst (λ k. leaf e.from < k) (sym a.3) (subst (λ q. leaf e.from < q.after) r w.3)) in
        let other : aborts_scope y x.scope ≡ false = false_from_ne_true (aborts_scope y x.scope) (λ t.
        keeps (subst (λ k. AbortsByNumber main e.from e.node k) same
        (region_of e.from e.node x.scope y.aborts in_e.from in_e.node aborts_e t))) in
        both_ways (region_clash (Some x) y) h
        (and_from (is_within y.leaf x.first x.end) (not (aborts_scope y x.scope))
        (within_from y.leaf x.first x.end low high)
        (not_from_false (aborts_scope y x.scope) other))

    disagree_where : (o : Option Region) → IsAborted (ranges main) (leaf d.from) d.node o → region_clash o y ≡ true
        → AbortsAgreeByNumber main d e → ⊥
    disagree_where None a h agree = false≢true h
    disagree_where (Some x) a h agree =
        let p = and_parts (is_within y.leaf x.first x.end) (not (aborts_scope y x.scope)) h in
        let z = within_to y.leaf x.first x.end p.0 in
        let low : (a.0).body ≤ leaf e.from =
        subst (λ k. k ≤ leaf e.from) a.2 (subst (λ k. x.first ≤ k) leaf_e z.0) in
        let high : leaf e.from < (a.0).after =
        subst (λ k. leaf e.from < k) a.3 (subst (λ k. k < x.end) leaf_e z.1) in
        agree x.scope (aborts_from d.from d.node x.scope a.0 in_d.from in_d.node (a.1).found (a.1).passes)
        (leaves_from e.from x.scope a.0 in_e.from (a.1).found low high)
        (λ g. true_not (aborts_scope y x.scope) p.1
        (region_is e.from e.node x.scope y.aborts in_e.from in_e.node aborts_e g))

  pub agree_from_steps : (d e : Edge) (x y : Step) → IsEdgeOf d → IsEdgeOf e → IsStep main d x → IsStep main e y
      → clash x y ≡ false → AbortsAgreeByNumber main d e
  unfolding leaf
  agree_from_steps d e x y p q a b h = agree_where d e y p q b.leaf b.aborts x.aborts a.aborts h

  pub disagree_from_steps : (d e : Edge) (x y : Step) → IsEdgeOf d → IsEdgeOf e → IsStep main d x → IsStep main e y
      → clash x y ≡ true → AbortsAgreeByNumber main d e → ⊥
  unfolding leaf
  disagree_from_steps d e x y p q a b h = disagree_where d e y p q b.leaf b.aborts x.aborts a.aborts h

  -- Refusals

  module _ (d e : Edge) (in_d : IsEdgeOf d) (in_e : IsEdgeOf e) where
    refused_where : (o : Option Region) (s : ℕ) → IsEntered (ranges main) (leaf e.to) e.node o
        → region_refused d.node o ≡ Some s → NodeInBody main d.node s × EntersByNumber main e.to e.node s
    refused_where None s a h = absurd (cc)
    refused_where (Some x) s a h = elim (cases_Bool (is_within d.node x.first x.end)) [
      | inl t ↦
          let same : x.scope ≡ s = same_Some x.scope s
          (sym (cond-true (is_within d.node x.first x.end) (Some x.scope) None t) ∙ h) in
          let z = within_to d.node x.first x.end t in
          let body : NodeInBody main d.node x.scope = body_from d.node x.scope a.0 (a.1).found
          (subst (λ k. k ≤ d.node) a.2 z.0) (subst (λ k. d.node < k) a.3 z.1) in
          let enters : EntersByNumber main e.to e.node x.scope =
          enters_from e.to e.node x.scope a.0 in_e.to in_e.node (a.1).found (a.1).passes in
          (subst (λ k. NodeInBody main d.node k) same body, subst (λ k. EntersByNumber main e.to e.node k) same enters)
      | inr f ↦
          let none : ◌≡◌ {A = Option ℕ} None (Some s) = sym
          (cond-false (is_within d.node x.first x.end) (Some x.scope) None f) ∙ h in
          absurd (cc)
    ]

    least_where : (o : Option Region) (t : ℕ) → IsEntered (ranges main) (leaf e.to) e.node o → NodeInBody main d.node t
        → EntersByNumber main e.to e.node t → (s : ℕ) × (region_refused d.node o ≡ Some s) × (s ≤ t)
    least_where None t a body enters =
        let w = enters_to e.to e.node t in_e.to in_e.node enters in absurd (a t w.0 w.1 w.2)
    least_where (Some x) t a body enters =
        let w = enters_to e.to e.node t in_e.to in_e.node enters in
        let b = body_to d.node t in_d.node body in
        let same_b : b.0 ≡ w.0 = same_range t b.0 w.0 b.1 w.1 in
        let low : (w.0).body ≤ d.node = subst (λ q. q.body ≤ d.node) same_b b.2 in
        let high : d.node < (w.0).trap = subst (λ q. d.node < q.trap) same_b b.3 in
        let inside : (a.0).body ≤ d.node → d.node < (a.0).trap → region_refused d.node (Some x) ≡ Some x.scope =
        λ l h. cond-true (is_within d.node x.first x.end) (Some x.scope) None
        (within_from d.node x.first x.end (subst (λ k. k ≤ d.node) (sym a.2) l)
        (subst (λ k. d.node < k) (sym a.3) h)) in
        elim (cases_order x.scope t) [
          | inl e ↦
              let r : a.0 ≡ w.0 = same_range t a.0 w.0 (subst (λ k. Has k a.0) e (a.1).found) w.1 in (
                x.scope,
                inside (subst (λ q. q.body ≤ d.node) (sym r) low) (subst (λ q. d.node < q.trap) (sym r) high),
                omega arith,
              )
          | inr o ↦ elim o [
            | inl less ↦
                let p = and_parts (is_within (leaf e.to) (a.0).body (a.0).after)
                (not (is_within e.node (a.0).body (a.0).after)) (a.1).passes in
                let q = and_parts (is_within (leaf e.to) (w.0).body (w.0).after)
                (not (is_within e.node (w.0).body (w.0).after)) w.2 in
                let u = within_to (leaf e.to) (a.0).body (a.0).after p.0 in
                let v = within_to (leaf e.to) (w.0).body (w.0).after q.0 in
                let o = (ordered t w.0 w.1).trap in
                elim (nested main 0 0 0 x.scope t a.0 w.0 right number less (a.1).found w.1) [
                  | inl n ↦ (x.scope, inside (let f = n.0 in omega arith) (let f = n.1 in omega arith), omega arith)
                  | inr n ↦ absurd (let f = u.1 in let g = v.0 in omega arith)
                ]
            | inr more ↦ absurd ((a.1).earlier t w.0 more w.1 w.2)
          ]
        ]

  pub refused_from_steps : (d e : Edge) (x y : Step) (s : ℕ) → IsEdgeOf d → IsEdgeOf e → IsStep main d x
      → IsStep main e y
      → refused_scope x y ≡ Some s → NodeInBody main d.node s × EntersByNumber main e.to e.node s
  unfolding leaf
  refused_from_steps d e x y s p q a b h =
      refused_where d e p q y.enters s b.enters (subst (λ n. region_refused n y.enters ≡ Some s) a.node h)

  pub least_from_steps : (d e : Edge) (x y : Step) (t : ℕ) → IsEdgeOf d → IsEdgeOf e → IsStep main d x → IsStep main e y
      → NodeInBody main d.node t → EntersByNumber main e.to e.node t → (s : ℕ) × (refused_scope x y ≡ Some s) × (s ≤ t)
  unfolding leaf
  least_from_steps d e x y t p q a b body enters =
      let r = least_where d e p q y.enters t b.enters body enters in
      (r.0, subst (λ n. region_refused n y.enters ≡ Some r.0) (sym a.node) r.1, r.2)
