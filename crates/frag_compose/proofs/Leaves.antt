-- The leaves of a tree: its places and its actions.
use Rattle.std.proofs.Common.{◌≡◌, ℕ, ◌+◌, ◌<◌, ◌≤◌, Bool, true, false, not, ◌&&◌, nat_eq, IsTrue, refl, ap, arith}
use Rattle.std.proofs.lemmas.Bool.{and_parts, eqb-true, ltb-true}
use Rattle.std.proofs.lemmas.Bool.Decides.{nat_tests}
use Rattle.bool_terms.specs.Terms.{Term, holds, term_inputs_below}
use Rattle.pbs_ast.specs.Trees.{Spot, Tree, Empty, Terminal, Action, Seq, Choice, Star, Hold, Scope}
use Rattle.pbs_ast.specs.Trees.{nullable, is_place, is_action}
use Rattle.pbs_ast.specs.Sound.{node_count, place_count, places_from, inputs_below, actions_below}
use Rattle.pbs_machine.specs.Rows.{ends, stays, started, right_start, body_start, main_starts}
use Rattle.net_core.specs.Rows.{Row}
use Rattle.frag_compose.specs.inner.Fits.{TreeFits, is_leaf}
use Rattle.frag_compose.specs.inner.Gains.{leaf_reached}

-- a tree whose places are numbered from `low` on fits where there is room for them
pub tree_fits : (e : Tree) (i n m low : ℕ) → IsTrue (inputs_below i e) → IsTrue (places_from e low)
    → low + place_count e ≤ n → IsTrue (actions_below m e) → TreeFits i n m e
tree_fits (Empty spot) i n m low a b c d = tt
tree_fits (Terminal spot p t) i n m low a b c d = (let at : p ≡ low = eqb-true p low b in omega arith, a)
tree_fits (Action spot x) i n m low a b c d = ltb-true x m d
tree_fits (Seq spot e f) i n m low a b c d =
    let p = and_parts (inputs_below i e) (inputs_below i f) a in
    let q = and_parts (places_from e low) (places_from f (low + place_count e)) b in
    let r = and_parts (actions_below m e) (actions_below m f) d in
    (tree_fits e i n m low p.0 q.0 (omega arith) r.0, tree_fits f i n m (low + place_count e) p.1 q.1 (omega arith) r.1)
tree_fits (Choice spot e f) i n m low a b c d =
    let p = and_parts (inputs_below i e) (inputs_below i f) a in
    let q = and_parts (places_from e low) (places_from f (low + place_count e)) b in
    let r = and_parts (actions_below m e) (actions_below m f) d in
    (tree_fits e i n m low p.0 q.0 (omega arith) r.0, tree_fits f i n m (low + place_count e) p.1 q.1 (omega arith) r.1)
tree_fits (Star spot e) i n m low a b c d = tree_fits e i n m low a b c d
tree_fits (Hold spot t e) i n m low a b c d =
    let p = and_parts (term_inputs_below i t) (inputs_below i e) a in
    (p.0, tree_fits e i n m low p.1 b c d)
tree_fits (Scope spot s e x h) i n m low a b c d =
    let low_x = low + place_count e in
    let low_h = low + place_count e + place_count x in
    let p = and_parts (inputs_below i e) (inputs_below i x && inputs_below i h) a in
    let p' = and_parts (inputs_below i x) (inputs_below i h) p.1 in
    let q = and_parts (places_from e low) (places_from x low_x && places_from h low_h) b in
    let q' = and_parts (places_from x low_x) (places_from h low_h) q.1 in
    let r = and_parts (actions_below m e) (actions_below m x && actions_below m h) d in
    let r' = and_parts (actions_below m x) (actions_below m h) r.1 in (
      tree_fits e i n m low p.0 q.0 (omega arith) r.0,
      tree_fits x i n m low_x p'.0 q'.0 (omega arith) r'.0,
      tree_fits h i n m low_h p'.1 q'.1 (omega arith) r'.1,
    )

-- two marks that agree on the tree's leaves
module _ (i n m : ℕ) (f g : Tree → Bool)
    (on_places : (spot : Spot) (p : ℕ) (t : Term) → p < n → f (Terminal spot p t) ≡ g (Terminal spot p t))
    (on_actions : (spot : Spot) (a : ℕ) → f (Action spot a) ≡ g (Action spot a)) where
  same_marks : (e : Tree) (old : ℕ → Bool) (x : ℕ) (outer start keep : Bool) → TreeFits i n m e
      → started e f old x outer start keep ≡ started e g old x outer start keep
  same_marks (Empty spot) old x outer start keep h = refl
  same_marks (Terminal spot p t) old x outer start keep h = ap (λ b. b && start) (on_places spot p t h.0)
  same_marks (Action spot a) old x outer start keep h = ap (λ b. b && start) (on_actions spot a)
  same_marks (Seq spot e e') old x outer start keep h =
      let right = right_start start keep (ends e old x outer) (nullable e) in
      rw (same_marks e old x outer start keep h.0, same_marks e' old x outer right keep h.1)
  same_marks (Choice spot e e') old x outer start keep h =
      rw (same_marks e old x outer start keep h.0, same_marks e' old x outer start keep h.1)
  same_marks (Star spot e) old x outer start keep h =
      same_marks e old x outer (body_start start keep (ends e old x outer)) keep h
  same_marks (Hold spot t e) old x outer start keep h = same_marks e old x (outer && holds t x) start keep h.1
  same_marks (Scope spot s e c a) old x outer start keep h =
      rw (
        same_marks e old x outer start (keep && not (ends c old x outer)) h.0,
        same_marks c old x outer start ((keep && not (ends c old x outer)) && stays e old x outer) h.1,
        same_marks a old x outer (ends c old x outer && keep) keep h.2,
      )

place_no_action : (n p a : ℕ) → p < n → nat_eq p (n + a) ≡ false
place_no_action n p a h = grind (arith, nat_tests)

action_no_place : (n p a : ℕ) → p < n → nat_eq (n + a) p ≡ false
action_no_place n p a h = grind (arith, nat_tests)

same_action : (n a b : ℕ) → nat_eq (n + a) (n + b) ≡ nat_eq a b
same_action n a b = grind (arith, nat_tests)

pub place_leaf : (i n m : ℕ) (tree : Tree) (row : Row) (p : ℕ) → TreeFits i n m tree → p < n
    → leaf_reached n tree row p ≡ main_starts tree (is_place p) row.registers row.vector row.reset
place_leaf i n m tree row p fits h =
    same_marks i n m (is_leaf n p) (is_place p) (λ spot q t lt. refl) (λ spot a. place_no_action n p a h)
    tree row.registers row.vector (not row.reset) row.reset true fits

pub action_leaf : (i n m : ℕ) (tree : Tree) (row : Row) (a : ℕ) → TreeFits i n m tree
    → leaf_reached n tree row (n + a) ≡ main_starts tree (is_action a) row.registers row.vector row.reset
action_leaf i n m tree row a fits =
    same_marks i n m (is_leaf n (n + a)) (is_action a)
    (λ spot q t lt. action_no_place n q a lt) (λ spot b. same_action n a b)
    tree row.registers row.vector (not row.reset) row.reset true fits

pub nodes_some : (tree : Tree) → 1 ≤ node_count tree
nodes_some (Empty spot) = omega arith
nodes_some (Terminal spot p t) = omega arith
nodes_some (Action spot a) = omega arith
nodes_some (Seq spot e f) = omega arith
nodes_some (Choice spot e f) = omega arith
nodes_some (Star spot e) = omega arith
nodes_some (Hold spot t e) = omega arith
nodes_some (Scope spot s e x h) = omega arith
