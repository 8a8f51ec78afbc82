-- What holds of the tree of every accepted specification.
use Rattle.std.specs.Prelude.{◌≡◌, IsTrue, nat_eq, nat_lt, bit_or, count_ones, Option, Some, None, if◌then◌else◌, ℕ}
use Rattle.std.specs.Prelude.{Bool, true, not, ◌&&◌, ◌+◌, ◌≤◌, max}
use Rattle.bool_terms.specs.Terms.{term_nodes, term_inputs_below, input_leaves, input_set}
use Rattle.pbs_base.specs.declared.refusal.Span.{Span}
use Rattle.pbs_ast.specs.Trees.{Tree, Empty, Terminal, Action, Seq, Choice, Star, Hold, Scope, nullable, has_terminal}
use Rattle.pbs_ast.specs.Trees.{is_plain}

-- every input in the tree's terms is below the bound
abbrev pub inputs_below : ℕ → Tree → Bool
inputs_below n (Empty at) = true
inputs_below n (Terminal at p t) = term_inputs_below n t
inputs_below n (Action at a) = true
inputs_below n (Seq at e f) = inputs_below n e && inputs_below n f
inputs_below n (Choice at e f) = inputs_below n e && inputs_below n f
inputs_below n (Star at e) = inputs_below n e
inputs_below n (Hold at t e) = term_inputs_below n t && inputs_below n e
inputs_below n (Scope at s e x h) = inputs_below n e && (inputs_below n x && inputs_below n h)

-- every action in the tree is below the bound
abbrev pub actions_below : ℕ → Tree → Bool
actions_below n (Empty at) = true
actions_below n (Terminal at p t) = true
actions_below n (Action at a) = nat_lt a n
actions_below n (Seq at e f) = actions_below n e && actions_below n f
actions_below n (Choice at e f) = actions_below n e && actions_below n f
actions_below n (Star at e) = actions_below n e
actions_below n (Hold at t e) = actions_below n e
actions_below n (Scope at s e x h) = actions_below n e && (actions_below n x && actions_below n h)

-- how many input leaves the tree's terms have
abbrev pub tree_input_leaves : Tree → ℕ
tree_input_leaves (Empty at) = 0
tree_input_leaves (Terminal at p t) = input_leaves t
tree_input_leaves (Action at a) = 0
tree_input_leaves (Seq at e f) = tree_input_leaves e + tree_input_leaves f
tree_input_leaves (Choice at e f) = tree_input_leaves e + tree_input_leaves f
tree_input_leaves (Star at e) = tree_input_leaves e
tree_input_leaves (Hold at t e) = input_leaves t + tree_input_leaves e
tree_input_leaves (Scope at s e x h) = tree_input_leaves e + tree_input_leaves x + tree_input_leaves h

-- the nodes of the tree and of its terms
abbrev pub node_count : Tree → ℕ
node_count (Empty at) = 1
node_count (Terminal at p t) = 1 + term_nodes t
node_count (Action at a) = 1
node_count (Seq at e f) = 1 + node_count e + node_count f
node_count (Choice at e f) = 1 + node_count e + node_count f
node_count (Star at e) = 1 + node_count e
node_count (Hold at t e) = 1 + term_nodes t + node_count e
node_count (Scope at s e x h) = 1 + node_count e + node_count x + node_count h

abbrev pub tree_depth : Tree → ℕ
tree_depth (Empty at) = 1
tree_depth (Terminal at p t) = 1
tree_depth (Action at a) = 1
tree_depth (Seq at e f) = 1 + max (tree_depth e) (tree_depth f)
tree_depth (Choice at e f) = 1 + max (tree_depth e) (tree_depth f)
tree_depth (Star at e) = 1 + tree_depth e
tree_depth (Hold at t e) = 1 + tree_depth e
tree_depth (Scope at s e x h) = 1 + max (tree_depth e) (max (tree_depth x) (tree_depth h))

abbrev pub place_count : Tree → ℕ
place_count (Empty at) = 0
place_count (Terminal at p t) = 1
place_count (Action at a) = 0
place_count (Seq at e f) = place_count e + place_count f
place_count (Choice at e f) = place_count e + place_count f
place_count (Star at e) = place_count e
place_count (Hold at t e) = place_count e
place_count (Scope at s e x h) = place_count e + place_count x + place_count h

abbrev pub scope_count : Tree → ℕ
scope_count (Empty at) = 0
scope_count (Terminal at p t) = 0
scope_count (Action at a) = 0
scope_count (Seq at e f) = scope_count e + scope_count f
scope_count (Choice at e f) = scope_count e + scope_count f
scope_count (Star at e) = scope_count e
scope_count (Hold at t e) = scope_count e
scope_count (Scope at s e x h) = 1 + scope_count e + scope_count x + scope_count h

-- the places are numbered from n on, in the order of visits
abbrev pub places_from : Tree → ℕ → Bool
places_from (Empty at) n = true
places_from (Terminal at p t) n = nat_eq p n
places_from (Action at a) n = true
places_from (Seq at e f) n = places_from e n && places_from f (n + place_count e)
places_from (Choice at e f) n = places_from e n && places_from f (n + place_count e)
places_from (Star at e) n = places_from e n
places_from (Hold at t e) n = places_from e n
places_from (Scope at s e x h) n = places_from e n &&
    (places_from x (n + place_count e) && places_from h (n + place_count e + place_count x))

-- the scopes are numbered from n on, in the order of visits
abbrev pub scopes_from : Tree → ℕ → Bool
scopes_from (Empty at) n = true
scopes_from (Terminal at p t) n = true
scopes_from (Action at a) n = true
scopes_from (Seq at e f) n = scopes_from e n && scopes_from f (n + scope_count e)
scopes_from (Choice at e f) n = scopes_from e n && scopes_from f (n + scope_count e)
scopes_from (Star at e) n = scopes_from e n
scopes_from (Hold at t e) n = scopes_from e n
scopes_from (Scope at s e x h) n = nat_eq s n && (scopes_from e (1 + n) &&
    (scopes_from x (1 + n + scope_count e) && scopes_from h (1 + n + scope_count e + scope_count x)))

-- no star's body may cover the empty stretch
abbrev pub stars_move : Tree → Bool
stars_move (Empty at) = true
stars_move (Terminal at p t) = true
stars_move (Action at a) = true
stars_move (Seq at e f) = stars_move e && stars_move f
stars_move (Choice at e f) = stars_move e && stars_move f
stars_move (Star at e) = not (nullable e) && stars_move e
stars_move (Hold at t e) = stars_move e
stars_move (Scope at s e x h) = stars_move e && stars_move x && stars_move h

-- each scope has a body with a terminal, and a trap that moves and has neither actions nor scopes
abbrev pub scopes_right : Tree → Bool
scopes_right (Empty at) = true
scopes_right (Terminal at p t) = true
scopes_right (Action at a) = true
scopes_right (Seq at e f) = scopes_right e && scopes_right f
scopes_right (Choice at e f) = scopes_right e && scopes_right f
scopes_right (Star at e) = scopes_right e
scopes_right (Hold at t e) = scopes_right e
scopes_right (Scope at s e x h) = has_terminal e &&
    (not (nullable x) && (is_plain x && (scopes_right e && scopes_right h)))

-- the nodes of the tree, without those of its terms
abbrev pub visit_count : Tree → ℕ
visit_count (Empty at) = 1
visit_count (Terminal at p t) = 1
visit_count (Action at a) = 1
visit_count (Seq at e f) = 1 + visit_count e + visit_count f
visit_count (Choice at e f) = 1 + visit_count e + visit_count f
visit_count (Star at e) = 1 + visit_count e
visit_count (Hold at t e) = 1 + visit_count e
visit_count (Scope at s e x h) = 1 + visit_count e + visit_count x + visit_count h

-- the nodes are numbered from n on, in the order of visits
abbrev pub nodes_from : Tree → ℕ → Bool
nodes_from (Empty at) n = nat_eq at.number n
nodes_from (Terminal at p t) n = nat_eq at.number n
nodes_from (Action at a) n = nat_eq at.number n
nodes_from (Seq at e f) n = nat_eq at.number n && (nodes_from e (n + 1) && nodes_from f (n + 1 + visit_count e))
nodes_from (Choice at e f) n = nat_eq at.number n && (nodes_from e (n + 1) && nodes_from f (n + 1 + visit_count e))
nodes_from (Star at e) n = nat_eq at.number n && nodes_from e (n + 1)
nodes_from (Hold at t e) n = nat_eq at.number n && nodes_from e (n + 1)
nodes_from (Scope at s e x h) n = nat_eq at.number n &&
    (nodes_from e (n + 1) && (nodes_from x (n + 1 + visit_count e) && nodes_from h
    (n + 1 + visit_count e + visit_count x)))

abbrev pub or_else : Option Span → Option Span → Option Span
or_else None b = b
or_else (Some span) b = Some span

-- the span of the first place whose effective term has more than 10 inputs; those of the holds round it are held
abbrev pub first_wide : ℕ → Tree → Option Span
first_wide held (Empty at) = None
first_wide held (Terminal at p t) = if nat_lt 10 (count_ones (bit_or held (input_set t))) then Some at.span else None
first_wide held (Action at a) = None
first_wide held (Seq at e f) = or_else (first_wide held e) (first_wide held f)
first_wide held (Choice at e f) = or_else (first_wide held e) (first_wide held f)
first_wide held (Star at e) = first_wide held e
first_wide held (Hold at t e) = first_wide (bit_or held (input_set t)) e
first_wide held (Scope at s e x h) = or_else (first_wide held e) (or_else (first_wide held x) (first_wide held h))

-- the limits and the numbers
pub record IsCounted (e : Tree) : Type 0 where
  pub inputs : IsTrue (inputs_below 64 e)
  pub nodes : node_count e ≤ 32768
  pub depth : tree_depth e ≤ 256
  pub places : place_count e ≤ 4096
  pub nodes_numbered : IsTrue (nodes_from e 0)
  pub places_numbered : IsTrue (places_from e 0)
  pub scopes_numbered : IsTrue (scopes_from e 0)

-- no star's body may be empty, and each scope can be run
pub record IsProper (e : Tree) : Type 0 where
  pub stars : IsTrue (stars_move e)
  pub scopes : IsTrue (scopes_right e)

pub record IsSound (e : Tree) : Type 0 where
  pub counted : IsCounted e
  pub proper : IsProper e
  pub narrow : first_wide 0 e ≡ None
