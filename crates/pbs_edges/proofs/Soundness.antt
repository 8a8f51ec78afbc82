-- Where no scope is refused, no scope overlaps, and places that stand at one position are together.
use Rattle.std.proofs.Common.{◌≡◌, ℕ, zero, suc, ◌≤◌, true, false, ◌⊎◌, inl, inr, List, [], ◌∷◌, arith, refl, sym, ◌∙◌}
use Rattle.std.proofs.Common.{ap, subst}
use Rattle.std.specs.Prelude.{slice_index}
use Rattle.std.proofs.lemmas.Bool.{both_ways}
use Rattle.pbs_ast.specs.Trees.{Tree}
use Rattle.pbs_derive.specs.Derivations.{stands, trips, NoOverlapBelow}
use Rattle.pbs_ast.specs.Sound.{scopes_from}
use Rattle.pbs_edges.specs.Edges.{Round, Body, Trap, Among, ScopedEdge, start_edge}
use Rattle.pbs_edges.specs.Walks.{IsJointStep, DoubleWalk, begin, step, Reaches, IsRefused}
use Rattle.pbs_edges.proofs.Tests.{at_or_below}
use Rattle.pbs_edges.proofs.Instances.{Lives, lives-within}
use Rattle.pbs_edges.proofs.Places.{first_from_stands}
use Rattle.pbs_edges.proofs.Steps.{Outcome, Arrival}
use Rattle.pbs_edges.proofs.Arrivals.{arrival, lives-less, follows}
use Rattle.pbs_edges.proofs.Scopes.{Parts, found, lives_from_live}

edge_of : {v : List ℕ} {e : Tree} {i k p : ℕ} {rs fs : List Round} → Arrival v e i k p rs fs → ScopedEdge
edge_of {p = p} {rs = rs} {fs = fs} d = record {
  from = d.from;
  to = p;
  node = d.node;
  above = rs;
  left = d.left;
  entered = fs;
}

-- up to k: places that stand at k are ends of a double walk, and each scope has one live instance at most
pub record Sound (main : Tree) (v : List ℕ) (k : ℕ) : Type 0 where
  pub joined : (p q : ℕ) → stands main v 0 k p ≡ true → stands main v 0 k q ≡ true → Reaches main p q
  pub single : (t a c : ℕ) (b y d z : Tree) → Lives v main 0 k t a b y → Lives v main 0 k t c d z → a ≡ c

module _ (main : Tree) (number : scopes_from main 0 ≡ true) (v : List ℕ) where
  -- one instance isn't aborted and not aborted
  clash : (k t : ℕ) → Sound main v k → Outcome v main 0 k t true → Outcome v main 0 k t false → ⊥
  clash k t sound c d =
      let start : c.start ≡ d.start = sound.single t c.start d.start c.body c.trap d.body d.trap c.lives d.lives in
      let f = found c.lives 0 number in
      let g = found d.lives 0 number in
      let same : ◌≡◌ {A = Parts} (record { body = c.body; trap = c.trap })
      (record { body = d.body; trap = d.trap }) = sym f.same ∙ g.same in
      let body : c.body ≡ d.body = ap (λ (r : Parts). r.body) same in
      let trap : c.trap ≡ d.trap = ap (λ (r : Parts). r.trap) same in
      let moved : trips d.body d.trap v d.start (suc k) ≡ true =
      subst (λ m. trips d.body d.trap v m (suc k) ≡ true) start
      (subst (λ w. trips d.body w v c.start (suc k) ≡ true) trap
      (subst (λ w. trips w c.trap v c.start (suc k) ≡ true) body c.outcome)) in
      both_ways (trips d.body d.trap v d.start (suc k)) d.outcome moved

  agree : (k p q : ℕ) (rs fs ts gs : List Round) → Sound main v k → (c : Arrival v main 0 k p rs fs)
      (d : Arrival v main 0 k q ts gs)
      → (s : ℕ) → Among c.left (Trap s) →
      ((Among ts (Body s) ⊎ Among ts (Trap s)) ⊎ (Among d.left (Body s) ⊎ Among d.left (Trap s)))
      → (Among d.left (Trap s) → ⊥) → ⊥
  agree k p q rs fs ts gs sound c d s aborts leaves keeps =
      let yes = c.left_well.aborted s aborts in
      elim leaves [
        | inl around ↦ clash k s sound yes (d.stay_well.stays s around)
        | inr below ↦ elim below [ inl body ↦ clash k s sound yes (d.left_well.kept s body) | inr trap ↦ keeps trap ]
      ]

  -- two edges of the step lemma extend a double walk
  extend : (k p q : ℕ) (rs fs ts gs : List Round) → Sound main v k → (c : Arrival v main 0 k p rs fs)
      (d : Arrival v main 0 k q ts gs)
      → (bs : List ScopedEdge) × (cs : List ScopedEdge) × DoubleWalk main (edge_of c ∷ bs) (edge_of d ∷ cs)
  unfolding edge_of
  extend k p q rs fs ts gs sound c d =
      let r = sound.joined c.from d.from c.stood d.stood in
      let joint : IsJointStep main (edge_of c) (edge_of d) = record {
        first_follow = c.edge;
        second_follow = d.edge;
        terms = (slice_index v k, c.opened, d.opened);
        aborts = agree k p q rs fs ts gs sound c d;
        aborts_back = agree k q p ts gs rs fs sound d c;
      } in
      (r.0 ∷ r.2, r.1 ∷ r.3, step r.4 (sym r.5) (sym r.6) joint)

  module _ (accepted : (s : ℕ) → IsRefused main s → ⊥) where
    -- no instance begins at k + 1 while another one is live
    apart : (k t a c : ℕ) (b y d z : Tree) → Sound main v k → Lives v main 0 (suc k) t a b y → Lives v main 0
        (suc k) t c d z → a ≤ k → c ≡ suc k → ⊥
    unfolding edge_of
    apart k t a c b y d z sound old new before now =
        let f = follows old (omega arith) in
        let g = follows new (omega arith) in
        let w = extend k f.place g.place f.above f.entered g.above g.entered sound f.arrived g.arrived in
        accepted t (edge_of f.arrived, edge_of g.arrived, w.0, w.1, w.2, inl (f.inside before, inl (g.enters now)))

    single_next : (k t a c : ℕ) (b y d z : Tree) → Sound main v k → Lives v main 0 (suc k) t a b y → Lives v main 0
        (suc k) t c d z → a ≡ c
    single_next k t a c b y d z sound l m =
        let p = lives-within l in
        let q = lives-within m in
        elim (at_or_below a (suc k) (omega arith)) [
          | inl e ↦ elim (at_or_below c (suc k) (omega arith)) [
            | inl f ↦ e ∙ sym f
            | inr g ↦ absurd (apart k t c a d z b y sound m l (omega arith) e)
          ]
          | inr f ↦ elim (at_or_below c (suc k) (omega arith)) [
            | inl e ↦ absurd (apart k t a c b y d z sound l m (omega arith) e)
            | inr g ↦ sound.single t a c b y d z (lives-less l (omega arith)) (lives-less m (omega arith))
          ]
        ]

    pub sound : (k : ℕ) → Sound main v k
    unfolding edge_of
    sound zero = record {
      joined = λ p q h g.
          let c = first_from_stands v main 0 p h in
          let d = first_from_stands v main 0 q g in
          (start_edge p, start_edge q, [], [], begin (p, c.0, c.1, refl) (q, d.0, d.1, refl), refl, refl);
      single = λ t a c b y d z l m. let p = lives-within l in let q = lives-within m in omega arith;
    }
    sound (suc k) = record {
      joined = λ p q h g.
          let c = arrival v main 0 k p (omega arith) h in
          let d = arrival v main 0 k q (omega arith) g in
          let w = extend k p q c.0 c.1 d.0 d.1 (sound k) c.2 d.2 in
          (edge_of c.2, edge_of d.2, w.0, w.1, w.2, refl, refl);
      single = λ t a c b y d z l m. single_next k t a c b y d z (sound k) l m;
    }

    pub no_overlap : (n : ℕ) → NoOverlapBelow main v n
    no_overlap n k below s j less old new =
        let l = lives_from_live v main 0 k s j (omega arith) old in
        let m = lives_from_live v main 0 k s k (omega arith) new in
        let same : j ≡ k = (sound k).single s j k l.0 l.1 m.0 m.1 l.2 m.2 in
        omega arith

    pub stand_together : (k p q : ℕ) → stands main v 0 k p ≡ true → stands main v 0 k q ≡ true → Reaches main p q
    stand_together k p q h g = (sound k).joined p q h g
