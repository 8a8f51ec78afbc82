-- What is closed under steps contains the end of every double walk.
use Rattle.std.proofs.Common.{ℕ, ◌⊎◌, inl, inr, List, [], ◌∷◌, refl, sym, subst}
use Rattle.pbs_ast.specs.Trees.{Tree}
use Rattle.pbs_edges.specs.Edges.{Round, ScopedEdge, start_edge, First, IsStart, LiesInBody, Enters}
use Rattle.pbs_edges.specs.Walks.{IsJointStep, DoubleWalk, begin, step, Reaches, Together, IsRefused}

-- a relation on pairs of places holds at the ends of two walks
abbrev EndsIn : (ℕ → ℕ → Type 0) → List ScopedEdge → List ScopedEdge → Type 0
EndsIn R [] es = Unit {0}
EndsIn R (d ∷ ds) [] = Unit {0}
EndsIn R (d ∷ ds) (e ∷ es) = R d.to e.to

module _ (main : Tree) where
  -- the relation holds of the first places, and goes along each joint step
  pub record IsClosed (R : ℕ → ℕ → Type 0) : Type 0 where
    pub starts : (p q : ℕ) (rs ts : List Round) → First main p rs → First main q ts → R p q
    pub steps : (d e : ScopedEdge) → IsJointStep main d e → R d.from e.from → R d.to e.to

  module _ (R : ℕ → ℕ → Type 0) (closed : IsClosed R) where
    ends : {ds es : List ScopedEdge} → DoubleWalk main ds es → EndsIn R ds es
    ends (begin {d = d} {e = e} a b) =
        subst (λ (x : ScopedEdge). R x.to e.to) (sym a.3)
        (subst (λ (x : ScopedEdge). R a.0 x.to) (sym b.3) (closed.starts a.0 b.0 a.1 b.1 a.2 b.2))
    ends (step {d = d} {e = e} {b = b} {c = c} w f g j) =
        closed.steps d e j (subst (λ p. R p e.from) (sym f) (subst (λ q. R b.to q) (sym g) (ends w)))

    pub reaches-closed : (p q : ℕ) → Reaches main p q → R p q
    reaches-closed p q r = subst (λ x. R x q) r.5 (subst (λ y. R (r.0).to y) r.6 (ends r.4))

  -- a joint step from a pair that is reached, in which d lies inside the body of s and e enters s, or the other way
  -- round
  abbrev pub IsRefusedStep : ℕ → ScopedEdge → ScopedEdge → Type 0
  IsRefusedStep s d e = IsJointStep main d e × Reaches main d.from e.from ×
      ((LiesInBody d s × Enters e s) ⊎ (Enters d s × LiesInBody e s))

  pub refused_from_step : (s : ℕ) (d e : ScopedEdge) → IsRefusedStep s d e → IsRefused main s
  refused_from_step s d e h =
      let r = h.1 in
      (d, e, r.0 ∷ r.2, r.1 ∷ r.3, step r.4 (sym r.5) (sym r.6) h.0, h.2)

  -- what the last edges of two walks are: two start edges, or a joint step from a pair that is reached
  abbrev LastStep : List ScopedEdge → List ScopedEdge → Type 0
  LastStep [] es = Unit {0}
  LastStep (d ∷ ds) [] = Unit {0}
  LastStep (d ∷ ds) (e ∷ es) = (IsStart main d × IsStart main e) ⊎ (IsJointStep main d e × Reaches main d.from e.from)

  last_step : {ds es : List ScopedEdge} → DoubleWalk main ds es → LastStep ds es
  last_step (begin a b) = inl (a, b)
  last_step (step {d = d} {e = e} {b = b} {c = c} {bs = bs} {cs = cs} w f g j) = inr
      (j, (b, c, bs, cs, w, sym f, sym g))

  -- a start edge lies inside nothing
  start-not_inside : (d : ScopedEdge) (s : ℕ) → IsStart main d → LiesInBody d s → ⊥
  start-not_inside d s a h = subst (λ (x : ScopedEdge). LiesInBody x s) a.3 h

  pub step_from_refused : (s : ℕ) → IsRefused main s → (d : ScopedEdge) × (e : ScopedEdge) × IsRefusedStep s d e
  step_from_refused s r = elim (last_step r.4) [
    | inl start ↦ elim r.5 [
      | inl h ↦ absurd (start-not_inside r.0 s start.0 h.0)
      | inr h ↦ absurd (start-not_inside r.1 s start.1 h.1)
    ]
    | inr joint ↦ (r.0, r.1, (joint.0, joint.1, r.5))
  ]

  joint-swap : {d e : ScopedEdge} → IsJointStep main d e → IsJointStep main e d
  joint-swap j = record {
    first_follow = j.second_follow;
    second_follow = j.first_follow;
    terms = ((j.terms).0, (j.terms).2, (j.terms).1);
    aborts = j.aborts_back;
    aborts_back = j.aborts;
  }

  -- the two walks of a double walk can change places
  pub walk-swap : {ds es : List ScopedEdge} → DoubleWalk main ds es → DoubleWalk main es ds
  walk-swap (begin a b) = begin b a
  walk-swap (step w f g j) = step (walk-swap w) g f (joint-swap j)

  -- so two places are together exactly where a double walk reaches them in this order
  pub reaches_from_together : (p q : ℕ) → Together main p q → Reaches main p q
  reaches_from_together p q h = elim h [ inl r ↦ r | inr r ↦ (r.1, r.0, r.3, r.2, walk-swap r.4, r.6, r.5) ]

  -- where a double walk reaches two places, a joint step reaches two more
  pub reaches-step : (d e : ScopedEdge) → IsJointStep main d e → Reaches main d.from e.from → Reaches main d.to e.to
  reaches-step d e j r = (d, e, r.0 ∷ r.2, r.1 ∷ r.3, step r.4 (sym r.5) (sym r.6) j, refl, refl)

  pub reaches-start : (p q : ℕ) (rs ts : List Round) → First main p rs → First main q ts → Reaches main p q
  reaches-start p q rs ts f g =
      (start_edge p, start_edge q, [], [], begin (p, rs, f, refl) (q, ts, g, refl), refl, refl)
