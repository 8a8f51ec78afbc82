-- In a tree without scopes no edge enters one, so that none is refused.
use Rattle.std.proofs.Common.{◌≡◌, ℕ, true, ◌⊎◌, inl, inr, List, [], ◌∷◌, sym, ap, subst}
use Rattle.std.proofs.lemmas.Bool.{and_parts}
use Rattle.pbs_ast.specs.Trees.{Tree, has_no_scope}
use Rattle.pbs_edges.specs.Edges.{Round, Body, Trap, Among, First, Follow, ScopedEdge, IsStart, IsFollow, Enters}
use Rattle.pbs_edges.specs.Edges.{first_terminal, first_left, first_right, first_either, first_or, first_star}
use Rattle.pbs_edges.specs.Edges.{first_hold, first_body, first_trap, start_edge}
use Rattle.pbs_edges.specs.Edges.{follow_seq, follow_star, follow_scope, within_left, within_right, within_either}
use Rattle.pbs_edges.specs.Edges.{within_or, within_star, within_hold, within_body, within_trap, within_after}
use Rattle.pbs_edges.specs.Walks.{DoubleWalk, begin, step, IsRefused}

first_enters : {e : Tree} {p : ℕ} {rs : List Round} → First e p rs → has_no_scope e ≡ true → (r : Round) → Among rs r
    → ⊥
first_enters first_terminal none r a = a
first_enters (first_left {e = e} {f = f} h) none r a =
    first_enters h (and_parts (has_no_scope e) (has_no_scope f) none).0 r a
first_enters (first_right {e = e} {f = f} l h) none r a =
    first_enters h (and_parts (has_no_scope e) (has_no_scope f) none).1 r a
first_enters (first_either {e = e} {f = f} h) none r a =
    first_enters h (and_parts (has_no_scope e) (has_no_scope f) none).0 r a
first_enters (first_or {e = e} {f = f} h) none r a =
    first_enters h (and_parts (has_no_scope e) (has_no_scope f) none).1 r a
first_enters (first_star h) none r a = first_enters h none r a
first_enters (first_hold h) none r a = first_enters h none r a
first_enters (first_body h) none r a = absurd (cc)
first_enters (first_trap h) none r a = absurd (cc)

follow_enters : {e : Tree} {p q n : ℕ} {above left entered : List Round} → Follow e p q n above left entered
    → has_no_scope e ≡ true → (r : Round) → Among entered r → ⊥
follow_enters (follow_seq {e = e} {f = f} l h) none r a =
    first_enters h (and_parts (has_no_scope e) (has_no_scope f) none).1 r a
follow_enters (follow_star l h) none r a = first_enters h none r a
follow_enters (follow_scope l h) none r a = absurd (cc)
follow_enters (within_left {e = e} {f = f} h) none r a =
    follow_enters h (and_parts (has_no_scope e) (has_no_scope f) none).0 r a
follow_enters (within_right {e = e} {f = f} h) none r a =
    follow_enters h (and_parts (has_no_scope e) (has_no_scope f) none).1 r a
follow_enters (within_either {e = e} {f = f} h) none r a =
    follow_enters h (and_parts (has_no_scope e) (has_no_scope f) none).0 r a
follow_enters (within_or {e = e} {f = f} h) none r a =
    follow_enters h (and_parts (has_no_scope e) (has_no_scope f) none).1 r a
follow_enters (within_star h) none r a = follow_enters h none r a
follow_enters (within_hold h) none r a = follow_enters h none r a
follow_enters (within_body h) none r a = absurd (cc)
follow_enters (within_trap h) none r a = absurd (cc)
follow_enters (within_after h) none r a = absurd (cc)

start_enters : (main : Tree) (d : ScopedEdge) (s : ℕ) → IsStart main d → Enters d s → ⊥
start_enters main d s is enters =
    elim (subst (λ (c : ScopedEdge). Enters c s) is.3 enters) [ inl body ↦ body | inr trap ↦ trap ]

edge_enters : (main : Tree) (d : ScopedEdge) (s : ℕ) → has_no_scope main ≡ true → IsFollow main d → Enters d s → ⊥
edge_enters main d s none is enters =
    elim enters [ inl body ↦ follow_enters is none (Body s) body | inr trap ↦ follow_enters is none (Trap s) trap ]

walk_enters : {main : Tree} {d e : ScopedEdge} {ds es : List ScopedEdge} → DoubleWalk main (d ∷ ds) (e ∷ es) → (s : ℕ)
    → has_no_scope main ≡ true → (Enters d s → ⊥) × (Enters e s → ⊥)
walk_enters {main = main} (begin {d = d} {e = e} a b) s none = (start_enters main d s a, start_enters main e s b)
walk_enters {main = main} (step {d = d} {e = e} w f g joint) s none =
    (edge_enters main d s none joint.first_follow, edge_enters main e s none joint.second_follow)

pub scopeless_refuses_none : (main : Tree) (s : ℕ) → has_no_scope main ≡ true → IsRefused main s → ⊥
scopeless_refuses_none main s none (d, e, ds, es, walk, last) =
    let enters = walk_enters walk s none in elim last [ inl h ↦ enters.1 h.1 | inr h ↦ enters.0 h.0 ]
