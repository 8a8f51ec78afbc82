-- What the limits say of the numbered tree.
use Rattle.std.proofs.Common.{◌≡◌, ◌≤◌, ℕ, ◌+◌, Bool, true, ◌&&◌, ◌++◌, refl, sym, ap, ◌∙◌, arith, nat_eq}
use Rattle.std.proofs.lemmas.Bool.{and_parts, and_from}
use Rattle.pbs_ast.specs.Trees.{Tree}
use Rattle.pbs_ast.specs.Sound.{node_count, visit_count, place_count, scope_count, places_from, scopes_from, nodes_from}
use Rattle.pbs_expand.specs.declared.parts.Pairing.TheVariants.{Sequence, Choice}
use Rattle.pbs_expand.specs.declared.build.Counters.{Counters}
use Rattle.pbs_expand.specs.Counting.{sum_of, name_cost, node_cost, hold_cost, scope_cost}
use Rattle.pbs_expand.specs.Walks.{Walk, Beyond, Empty, Terminal, Action, Name, Star, Hold, Pair, Scope, complete}
use Rattle.pbs_expand.specs.Visits.{visits, after_visits, numbered}
use Rattle.pbs_expand.proofs.VisitLaws.{after_visits-append}

-- what a walk adds to each counter
pub record Adds (w : Walk) (c : Counters) : Type 0 where
  pub counts : c.counts + node_count (numbered w c) ≤ (after_visits c (visits w)).counts
  pub nodes : (after_visits c (visits w)).nodes ≡ c.nodes + visit_count (numbered w c)
  pub places : (after_visits c (visits w)).places ≡ c.places + place_count (numbered w c)
  pub scopes : (after_visits c (visits w)).scopes ≡ c.scopes + scope_count (numbered w c)

-- two parts one after the other
ends : (v w : Walk) (c : Counters) → after_visits c (visits v ++ visits w) ≡ after_visits (after_visits c (visits v))
    (visits w)
ends v w c = after_visits-append (visits v) (visits w) c

pub adds : (w : Walk) (c : Counters) → complete w ≡ true → Adds w c
adds (Beyond span) c whole = cc
adds (Empty span) c whole = record {
  counts = omega arith;
  nodes = omega arith;
  places = omega arith;
  scopes = omega
      arith;
}
adds (Terminal span t) c whole = record {
  counts = omega arith;
  nodes = omega arith;
  places = omega arith;
  scopes =
      omega arith;
}
adds (Action span a) c whole = record {
  counts = omega arith;
  nodes = omega arith;
  places = omega arith;
  scopes =
      omega arith;
}
adds (Name span w) c whole =
    let a = adds w (sum_of c name_cost) whole in
    record {
      counts = omega (arith, a.counts);
      nodes = omega (arith, a.nodes);
      places = omega (arith, a.places);
      scopes = omega (arith, a.scopes);
    }
adds (Star span w) c whole =
    let a = adds w (sum_of c node_cost) whole in
    record {
      counts = omega (arith, a.counts);
      nodes = omega (arith, a.nodes);
      places = omega (arith, a.places);
      scopes = omega (arith, a.scopes);
    }
adds (Hold span b w) c whole =
    let a = adds w (sum_of c (hold_cost b)) whole in
    record {
      counts = omega (arith, a.counts);
      nodes = omega (arith, a.nodes);
      places = omega (arith, a.places);
      scopes = omega (arith, a.scopes);
    }
adds (Pair span Sequence v w) c whole =
    let d = sum_of c node_cost in let e = after_visits d (visits v) in
    let a = adds v d (and_parts (complete v) (complete w) whole).0 in
    let b = adds w e (and_parts (complete v) (complete w) whole).1 in
    let end = ends v w d in
    record {
      counts = omega (arith, a.counts, b.counts, ap (λ x. x.counts) end);
      nodes = omega (arith, a.nodes, b.nodes, ap (λ x. x.nodes) end);
      places = omega (arith, a.places, b.places, ap (λ x. x.places) end);
      scopes = omega (arith, a.scopes, b.scopes, ap (λ x. x.scopes) end);
    }
adds (Pair span Choice v w) c whole =
    let d = sum_of c node_cost in let e = after_visits d (visits v) in
    let a = adds v d (and_parts (complete v) (complete w) whole).0 in
    let b = adds w e (and_parts (complete v) (complete w) whole).1 in
    let end = ends v w d in
    record {
      counts = omega (arith, a.counts, b.counts, ap (λ x. x.counts) end);
      nodes = omega (arith, a.nodes, b.nodes, ap (λ x. x.nodes) end);
      places = omega (arith, a.places, b.places, ap (λ x. x.places) end);
      scopes = omega (arith, a.scopes, b.scopes, ap (λ x. x.scopes) end);
    }
adds (Scope span v w x) c whole =
    let d = sum_of c scope_cost in let e = after_visits d (visits v) in let f = after_visits e (visits w) in
    let parts = and_parts (complete v) (complete w && complete x) whole in
    let rest = and_parts (complete w) (complete x) parts.1 in
    let a = adds v d parts.0 in
    let b = adds w e rest.0 in
    let g = adds x f rest.1 in
    let end = after_visits-append (visits v) (visits w ++ visits x) d ∙ ends w x e in
    record {
      counts = omega (arith, a.counts, b.counts, g.counts, ap (λ x. x.counts) end);
      nodes = omega (arith, a.nodes, b.nodes, g.nodes, ap (λ x. x.nodes) end);
      places = omega (arith, a.places, b.places, g.places, ap (λ x. x.places) end);
      scopes = omega (arith, a.scopes, b.scopes, g.scopes, ap (λ x. x.scopes) end);
    }

-- the numbers from which a part's nodes, places and scopes run
pub record InOrder (t : Tree) (c : Counters) : Type 0 where
  pub nodes : nodes_from t c.nodes ≡ true
  pub places : places_from t c.places ≡ true
  pub scopes : scopes_from t c.scopes ≡ true

same_number : (n : ℕ) → nat_eq n n ≡ true
same_number n = grind arith

moved : (test : ℕ → Bool) (m n : ℕ) → test m ≡ true → m ≡ n → test n ≡ true
moved test m n h e = ap test (sym e) ∙ h

pub in_order : (w : Walk) (c : Counters) → complete w ≡ true → InOrder (numbered w c) c
in_order (Beyond span) c whole = cc
in_order (Empty span) c whole = record { nodes = same_number c.nodes; places = refl; scopes = refl }
in_order (Terminal span t) c whole = record {
  nodes = same_number c.nodes;
  places = same_number c.places;
  scopes =
      refl;
}
in_order (Action span a) c whole = record { nodes = same_number c.nodes; places = refl; scopes = refl }
in_order (Name span w) c whole =
    let t = numbered w (sum_of c name_cost) in
    let a = in_order w (sum_of c name_cost) whole in
    record {
      nodes = moved (nodes_from t) (c.nodes + 0) c.nodes a.nodes (omega arith);
      places = moved (places_from t) (c.places + 0) c.places a.places (omega arith);
      scopes = moved (scopes_from t) (c.scopes + 0) c.scopes a.scopes (omega arith);
    }
in_order (Star span w) c whole =
    let t = numbered w (sum_of c node_cost) in
    let a = in_order w (sum_of c node_cost) whole in
    record {
      nodes = and_from (nat_eq c.nodes c.nodes) (nodes_from t (c.nodes + 1)) (same_number c.nodes) a.nodes;
      places = moved (places_from t) (c.places + 0) c.places a.places (omega arith);
      scopes = moved (scopes_from t) (c.scopes + 0) c.scopes a.scopes (omega arith);
    }
in_order (Hold span b w) c whole =
    let t = numbered w (sum_of c (hold_cost b)) in
    let a = in_order w (sum_of c (hold_cost b)) whole in
    record {
      nodes = and_from (nat_eq c.nodes c.nodes) (nodes_from t (c.nodes + 1)) (same_number c.nodes) a.nodes;
      places = moved (places_from t) (c.places + 0) c.places a.places (omega arith);
      scopes = moved (scopes_from t) (c.scopes + 0) c.scopes a.scopes (omega arith);
    }
in_order (Pair span Sequence v w) c whole =
    let d = sum_of c node_cost in let e = after_visits d (visits v) in
    let parts = and_parts (complete v) (complete w) whole in
    let t = numbered v d in let u = numbered w e in
    let a = in_order v d parts.0 in let b = in_order w e parts.1 in let n = adds v d parts.0 in
    record {
      nodes = and_from _ _ (same_number c.nodes) (and_from _ _ a.nodes
          (moved (nodes_from u) e.nodes (c.nodes + 1 + visit_count t) b.nodes n.nodes));
      places = and_from _ _ (moved (places_from t) (c.places + 0) c.places a.places (omega arith))
          (moved (places_from u) e.places (c.places + place_count t) b.places (omega (arith, n.places)));
      scopes = and_from _ _ (moved (scopes_from t) (c.scopes + 0) c.scopes a.scopes (omega arith))
          (moved (scopes_from u) e.scopes (c.scopes + scope_count t) b.scopes (omega (arith, n.scopes)));
    }
in_order (Pair span Choice v w) c whole =
    let d = sum_of c node_cost in let e = after_visits d (visits v) in
    let parts = and_parts (complete v) (complete w) whole in
    let t = numbered v d in let u = numbered w e in
    let a = in_order v d parts.0 in let b = in_order w e parts.1 in let n = adds v d parts.0 in
    record {
      nodes = and_from _ _ (same_number c.nodes) (and_from _ _ a.nodes
          (moved (nodes_from u) e.nodes (c.nodes + 1 + visit_count t) b.nodes n.nodes));
      places = and_from _ _ (moved (places_from t) (c.places + 0) c.places a.places (omega arith))
          (moved (places_from u) e.places (c.places + place_count t) b.places (omega (arith, n.places)));
      scopes = and_from _ _ (moved (scopes_from t) (c.scopes + 0) c.scopes a.scopes (omega arith))
          (moved (scopes_from u) e.scopes (c.scopes + scope_count t) b.scopes (omega (arith, n.scopes)));
    }
in_order (Scope span v w x) c whole =
    let d = sum_of c scope_cost in let e = after_visits d (visits v) in let f = after_visits e (visits w) in
    let parts = and_parts (complete v) (complete w && complete x) whole in
    let rest = and_parts (complete w) (complete x) parts.1 in
    let t = numbered v d in let u = numbered w e in let y = numbered x f in
    let a = in_order v d parts.0 in let b = in_order w e rest.0 in let g = in_order x f rest.1 in
    let n = adds v d parts.0 in let m = adds w e rest.0 in
    record {
      nodes = and_from _ _ (same_number c.nodes) (and_from _ _ a.nodes
          (and_from _ _ (moved (nodes_from u) e.nodes (c.nodes + 1 + visit_count t) b.nodes n.nodes)
          (moved (nodes_from y) f.nodes (c.nodes + 1 + visit_count t + visit_count u) g.nodes
          (omega (arith, n.nodes, m.nodes)))));
      places = and_from _ _ (moved (places_from t) (c.places + 0) c.places a.places (omega arith))
          (and_from _ _ (moved (places_from u) e.places (c.places + place_count t) b.places (omega (arith, n.places)))
          (moved (places_from y) f.places (c.places + place_count t + place_count u) g.places
          (omega (arith, n.places, m.places))));
      scopes = and_from _ _ (same_number c.scopes)
          (and_from _ _ (moved (scopes_from t) (c.scopes + 1) (1 + c.scopes) a.scopes (omega arith))
          (and_from _ _ (moved (scopes_from u) e.scopes (1 + c.scopes + scope_count t) b.scopes
          (omega (arith, n.scopes)))
          (moved (scopes_from y) f.scopes (1 + c.scopes + scope_count t + scope_count u) g.scopes
          (omega (arith, n.scopes, m.scopes)))));
    }
