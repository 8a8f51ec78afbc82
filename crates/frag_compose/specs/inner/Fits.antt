-- What a tree asks of the circuit round it, and its leaves.
use Rattle.std.specs.Prelude.{ℕ, ◌+◌, ◌<◌, Bool, false, nat_eq, IsTrue}
use Rattle.bool_terms.specs.Terms.{term_inputs_below}
use Rattle.pbs_ast.specs.Trees.{Tree, Empty, Terminal, Action, Seq, Choice, Star, Hold, Scope}

-- the tree's inputs, places and actions are below these numbers
abbrev pub TreeFits : ℕ → ℕ → ℕ → Tree → Type 0
TreeFits i n m (Empty spot) = Unit {0}
TreeFits i n m (Terminal spot p t) = (p < n) × IsTrue (term_inputs_below i t)
TreeFits i n m (Action spot a) = a < m
TreeFits i n m (Seq spot e f) = TreeFits i n m e × TreeFits i n m f
TreeFits i n m (Choice spot e f) = TreeFits i n m e × TreeFits i n m f
TreeFits i n m (Star spot e) = TreeFits i n m e
TreeFits i n m (Hold spot t e) = IsTrue (term_inputs_below i t) × TreeFits i n m e
TreeFits i n m (Scope spot s e x h) = TreeFits i n m e × TreeFits i n m x × TreeFits i n m h

-- the tree is this leaf: place p is leaf p, action a is leaf n + a
abbrev pub is_leaf : ℕ → ℕ → Tree → Bool
is_leaf n leaf (Terminal spot p t) = nat_eq leaf p
is_leaf n leaf (Action spot a) = nat_eq leaf (n + a)
is_leaf n leaf _ = false
