-- The expanded tree of main: what may be empty, what stands in it, its last places and their effective terms.
use Rattle.std.specs.Prelude.{ℕ, Bool, true, false, ◌&&◌, ◌||◌, nat_eq}
use Rattle.pbs_base.specs.declared.refusal.Span.{Span}
use Rattle.bool_terms.specs.Terms.{Term, term_of, holds}
use Rattle.pbs_ast.specs.declared.tree.Tree as tree
use Rattle.pbs_ast.specs.declared.tree.TreeKind as kind

-- where a node was written, and its number
pub record Spot : Type 0 where
  pub span : Span
  pub number : ℕ

pub data Tree : Type 0 where
  Empty : (spot : Spot) → Tree
  Terminal : (spot : Spot) (place : ℕ) (term : Term) → Tree
  Action : (spot : Spot) (action : ℕ) → Tree
  Seq : (spot : Spot) (e f : Tree) → Tree
  Choice : (spot : Spot) (e f : Tree) → Tree
  Star : (spot : Spot) (e : Tree) → Tree
  Hold : (spot : Spot) (term : Term) (e : Tree) → Tree
  Scope : (spot : Spot) (scope : ℕ) (body trap after : Tree) → Tree

abbrev pub spot_of : Span → ℕ → Spot
spot_of span number = record { span = span; number = number }

-- the tree that the nodes of a program's tree make
abbrev pub tree_from : Span → ℕ → kind.TreeKind → Tree
tree_from span n kind.Empty = Empty (spot_of span n)
tree_from span n (kind.Terminal p t) = Terminal (spot_of span n) p (term_of t)
tree_from span n (kind.Action a) = Action (spot_of span n) a
tree_from span n (kind.Seq' _ s k e _ s' k' f) = Seq (spot_of span n) (tree_from s k e) (tree_from s' k' f)
tree_from span n (kind.Choice' _ s k e _ s' k' f) = Choice (spot_of span n) (tree_from s k e) (tree_from s' k' f)
tree_from span n (kind.Star' _ s k e) = Star (spot_of span n) (tree_from s k e)
tree_from span n (kind.Hold' t _ s k e) = Hold (spot_of span n) (term_of t) (tree_from s k e)
tree_from span n (kind.Scope' p _ s k e _ s' k' x _ s'' k'' h) = Scope (spot_of span n) p (tree_from s k e)
    (tree_from s' k' x) (tree_from s'' k'' h)

abbrev pub tree_of : tree.Tree → Tree
tree_of tree = tree_from tree.span tree.number tree.kind

-- the tree may cover the empty stretch
abbrev pub nullable : Tree → Bool
nullable (Empty at) = true
nullable (Terminal at p t) = false
nullable (Action at a) = true
nullable (Seq at e f) = nullable e && nullable f
nullable (Choice at e f) = nullable e || nullable f
nullable (Star at e) = true
nullable (Hold at t e) = nullable e
nullable (Scope at s e x h) = nullable e

-- a terminal lies in the tree
abbrev pub has_terminal : Tree → Bool
has_terminal (Empty at) = false
has_terminal (Terminal at p t) = true
has_terminal (Action at a) = false
has_terminal (Seq at e f) = has_terminal e || has_terminal f
has_terminal (Choice at e f) = has_terminal e || has_terminal f
has_terminal (Star at e) = has_terminal e
has_terminal (Hold at t e) = has_terminal e
has_terminal (Scope at s e x h) = has_terminal e || (has_terminal x || has_terminal h)

-- neither a scope nor an action lies in the tree
abbrev pub is_plain : Tree → Bool
is_plain (Empty at) = true
is_plain (Terminal at p t) = true
is_plain (Action at a) = false
is_plain (Seq at e f) = is_plain e && is_plain f
is_plain (Choice at e f) = is_plain e && is_plain f
is_plain (Star at e) = is_plain e
is_plain (Hold at t e) = is_plain e
is_plain (Scope at s e x h) = false

-- no scope lies in the tree
abbrev pub has_no_scope : Tree → Bool
has_no_scope (Empty at) = true
has_no_scope (Terminal at p t) = true
has_no_scope (Action at a) = true
has_no_scope (Seq at e f) = has_no_scope e && has_no_scope f
has_no_scope (Choice at e f) = has_no_scope e && has_no_scope f
has_no_scope (Star at e) = has_no_scope e
has_no_scope (Hold at t e) = has_no_scope e
has_no_scope (Scope at s e x h) = false

-- the tree is a terminal with this place
abbrev pub is_place : ℕ → Tree → Bool
is_place p (Terminal at q t) = nat_eq p q
is_place p _ = false

-- the tree is this action
abbrev pub is_action : ℕ → Tree → Bool
is_action a (Action at b) = nat_eq a b
is_action a _ = false

-- the place stands in the tree
abbrev pub has_place : ℕ → Tree → Bool
has_place p (Empty at) = false
has_place p (Terminal at q t) = nat_eq p q
has_place p (Action at a) = false
has_place p (Seq at e f) = has_place p e || has_place p f
has_place p (Choice at e f) = has_place p e || has_place p f
has_place p (Star at e) = has_place p e
has_place p (Hold at t e) = has_place p e
has_place p (Scope at s e x h) = (has_place p e || has_place p x) || has_place p h

-- p is a last place of the tree
abbrev pub is_last : ℕ → Tree → Bool
is_last p (Empty at) = false
is_last p (Terminal at q t) = nat_eq p q
is_last p (Action at a) = false
is_last p (Seq at e f) = is_last p f || (is_last p e && nullable f)
is_last p (Choice at e f) = is_last p e || is_last p f
is_last p (Star at e) = is_last p e
is_last p (Hold at t e) = is_last p e
is_last p (Scope at s e x h) = (is_last p e || is_last p h) || (is_last p x && nullable h)

-- the effective term of place p within the tree is true in the vector
abbrev pub fits : ℕ → Tree → ℕ → Bool
fits p (Empty at) x = false
fits p (Terminal at q t) x = nat_eq p q && holds t x
fits p (Action at a) x = false
fits p (Seq at e f) x = fits p e x || fits p f x
fits p (Choice at e f) x = fits p e x || fits p f x
fits p (Star at e) x = fits p e x
fits p (Hold at t e) x = fits p e x && holds t x
fits p (Scope at s e c h) x = (fits p e x || fits p c x) || fits p h x
