-- Double walks by the numbers of edges: what a search over the lists of first places and follow edges has to keep.
use Rattle.std.proofs.Common.{◌≡◌, ℕ, ◌⊎◌, inl, inr, refl}
use Rattle.pbs_ast.specs.Trees.{Tree}
use Rattle.pbs_edges.proofs.Numbering.{IsNumbered}
use Rattle.pbs_edges.specs.Edges.{ScopedEdge, IsFollow, Enters, LiesInBody}
use Rattle.pbs_edges.specs.Walks.{IsJointStep, AbortsAgree, Reaches, IsRefused}
use Rattle.pbs_edges.specs.Listed.{first_places, follow_edges}
use Rattle.pbs_edges.specs.declared.edge.Edge.{Edge}
use Rattle.pbs_edges.specs.inner.ByNumber.{AbortsAgreeByNumber, Fits, RefusesByNumber}
use Rattle.pbs_edges.proofs.ByNumber.{aborts_by_number, enters_by_number, lies_by_number, leaves_by_number}
use Rattle.pbs_edges.proofs.Listed.{OneOf, listed_first, first_listed, listed_follow, follow_listed, numbers}
use Rattle.pbs_edges.proofs.Closure.{reaches-closed, reaches-step, reaches-start, refused_from_step, step_from_refused}

abbrev numbers_of : ScopedEdge → Edge
numbers_of d = numbers d.from d.to d.node

module _ (main : Tree) (number : IsNumbered main) where
  agree_to : (d e : ScopedEdge) → IsFollow main d → IsFollow main e → AbortsAgree d e → AbortsAgreeByNumber main
      (numbers_of d) (numbers_of e)
  agree_to d e f g a = λ s aborts leaves keeps. a s ((aborts_by_number main number d f s).1 aborts)
      ((leaves_by_number main number e g s).1 leaves)
      (λ h. keeps ((aborts_by_number main number e g s).0 h))

  agree_from : (d e : ScopedEdge) → IsFollow main d → IsFollow main e → AbortsAgreeByNumber main (numbers_of d)
      (numbers_of e) → AbortsAgree d e
  agree_from d e f g a = λ s aborts leaves keeps. a s ((aborts_by_number main number d f s).0 aborts)
      ((leaves_by_number main number e g s).0 leaves)
      (λ h. keeps ((aborts_by_number main number e g s).1 h))

  fits_from_joint : (d e : ScopedEdge) → IsJointStep main d e → Fits main (numbers_of d) (numbers_of e)
  fits_from_joint d e j = record {
    terms = j.terms;
    aborts = agree_to d e j.first_follow j.second_follow j.aborts;
    aborts_back = agree_to e d j.second_follow j.first_follow j.aborts_back;
  }

  joint_from_fits : (d e : ScopedEdge) → IsFollow main d → IsFollow main e → Fits main (numbers_of d) (numbers_of e)
      → IsJointStep main d e
  joint_from_fits d e f g h = record {
    first_follow = f;
    second_follow = g;
    terms = h.terms;
    aborts = agree_from d e f g h.aborts;
    aborts_back = agree_from e d g f h.aborts_back;
  }

  refuses_to : (d e : ScopedEdge) → IsFollow main d → IsFollow main e → (s : ℕ)
      → ((LiesInBody d s × Enters e s) ⊎ (Enters d s × LiesInBody e s)) → RefusesByNumber main (numbers_of d)
      (numbers_of e) s
  refuses_to d e f g s h = elim h [
    | inl a ↦ inl ((lies_by_number main number d f s).0 a.0, (enters_by_number main number e g s).0 a.1)
    | inr b ↦ inr ((enters_by_number main number d f s).0 b.0, (lies_by_number main number e g s).0 b.1)
  ]

  refuses_from : (d e : ScopedEdge) → IsFollow main d → IsFollow main e → (s : ℕ) → RefusesByNumber main (numbers_of d)
      (numbers_of e) s
      → ((LiesInBody d s × Enters e s) ⊎ (Enters d s × LiesInBody e s))
  refuses_from d e f g s h = elim h [
    | inl a ↦ inl ((lies_by_number main number d f s).1 a.0, (enters_by_number main number e g s).1 a.1)
    | inr b ↦ inr ((enters_by_number main number d f s).1 b.0, (lies_by_number main number e g s).1 b.1)
  ]

  -- a listed edge with the scopes round it
  edge_listed : (d : Edge) → OneOf (follow_edges main) d → (x : ScopedEdge) × IsFollow main x × (numbers_of x ≡ d)
  edge_listed d h =
      let r = follow_listed main d h in
      (record { from = d.from; to = d.to; node = d.node; above = r.0; left = r.1; entered = r.2 }, r.3, refl)

  -- a search begins with the pairs of first places ..
  pub reaches_begin : (p q : ℕ) → OneOf (first_places main) p → OneOf (first_places main) q → Reaches main p q
  reaches_begin p q h g = let c = first_listed main p h in let d = first_listed main q g in
      reaches-start main p q c.0 d.0 c.1 d.1

  -- .. and goes on by two listed edges that fit
  pub reaches_next : (d e : Edge) → OneOf (follow_edges main) d → OneOf (follow_edges main) e → Fits main d e
      → Reaches main d.from e.from → Reaches main d.to e.to
  unfolding edge_listed
  reaches_next d e h g f r =
      let x = edge_listed d h in
      let y = edge_listed e g in
      reaches-step main x.0 y.0 (joint_from_fits x.0 y.0 x.1 y.1 f) r

  -- what holds of its beginning and goes along its steps holds of every pair that is reached
  pub reaches_all : (R : ℕ → ℕ → Type 0)
      → ((p q : ℕ) → OneOf (first_places main) p → OneOf (first_places main) q → R p q)
      → ((d e : Edge) → OneOf (follow_edges main) d → OneOf (follow_edges main) e → Fits main d e → R d.from e.from
      → R d.to e.to)
      → (p q : ℕ) → Reaches main p q → R p q
  reaches_all R first next p q r = reaches-closed main R (record {
    starts = λ a b rs ts f g. first a b (listed_first f) (listed_first g);
    steps = λ d e j h. next (numbers_of d) (numbers_of e) (listed_follow j.first_follow) (listed_follow j.second_follow)
        (fits_from_joint d e j) h;
  }) p q r

  -- a scope is refused exactly where two listed edges that fit, from a pair that is reached, refuse it
  pub refused_by_numbers : (s : ℕ) (d e : Edge) → OneOf (follow_edges main) d → OneOf (follow_edges main) e
      → Fits main d e
      → Reaches main d.from e.from → RefusesByNumber main d e s → IsRefused main s
  unfolding edge_listed
  refused_by_numbers s d e h g f r c =
      let x = edge_listed d h in
      let y = edge_listed e g in
      refused_from_step main s x.0 y.0 (joint_from_fits x.0 y.0 x.1 y.1 f, r, refuses_from x.0 y.0 x.1 y.1 s c)

  pub numbers_of_refused : (s : ℕ) → IsRefused main s → (d : Edge) × (e : Edge) × OneOf (follow_edges main) d × OneOf
      (follow_edges main) e
      × Fits main d e × Reaches main d.from e.from × RefusesByNumber main d e s
  numbers_of_refused s h =
      let r = step_from_refused main s h in
      let j = (r.2).0 in (
        numbers_of r.0,
        numbers_of r.1,
        listed_follow j.first_follow,
        listed_follow j.second_follow,
        fits_from_joint r.0 r.1 j,
        (r.2).1,
        refuses_to r.0 r.1 j.first_follow j.second_follow s (r.2).2,
      )
