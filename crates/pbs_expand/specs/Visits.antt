-- The visits in order, the first that passes a limit, and the numbered tree.
use Rattle.std.specs.Prelude.{ℕ, Bool, true, false, not, ◌&&◌, if◌then◌else◌, List, [], ◌∷◌, ◌++◌, Option, Some, None}
use Rattle.pbs_base.specs.declared.refusal.Span.{Span}
use Rattle.bool_terms.specs.Terms.{Term}
use Rattle.pbs_ast.specs.Trees.{Tree, spot_of}
use Rattle.pbs_ast.specs.Trees as trees
use Rattle.pbs_expand.specs.declared.parts.Pairing.{Pairing}
use Rattle.pbs_expand.specs.declared.parts.Pairing.TheVariants.{Sequence, Choice}
use Rattle.pbs_expand.specs.declared.build.Counters.{Counters}
use Rattle.pbs_expand.specs.Counting.{name_cost, node_cost, terminal_cost, hold_cost, scope_cost, sum_of, fits}
use Rattle.pbs_expand.specs.Walks.{Walk, Beyond, Empty, Terminal, Action, Name, Star, Hold, Pair, Scope}

pub record Visit : Type 0 where
  pub span : Span
  pub cost : Counters
  pub too_deep : Bool

abbrev pub visit : Span → Counters → Visit
visit span cost = record { span = span; cost = cost; too_deep = false }

-- the visits in order: a node before its parts, and the parts from left to right
abbrev pub visits : Walk → List Visit
visits (Beyond span) = record { span = span; cost = name_cost; too_deep = true } ∷ []
visits (Empty span) = visit span node_cost ∷ []
visits (Terminal span t) = visit span (terminal_cost t) ∷ []
visits (Action span a) = visit span node_cost ∷ []
visits (Name span w) = visit span name_cost ∷ visits w
visits (Star span w) = visit span node_cost ∷ visits w
visits (Hold span b w) = visit span (hold_cost b) ∷ visits w
visits (Pair span by v w) = visit span node_cost ∷ (visits v ++ visits w)
visits (Scope span v w x) = visit span scope_cost ∷ (visits v ++ (visits w ++ visits x))

-- what is counted after these visits
abbrev pub after_visits : Counters → List Visit → Counters
after_visits c [] = c
after_visits c (v ∷ vs) = after_visits (sum_of c v.cost) vs

-- the span of the first visit with which a limit is passed
abbrev pub first_over : Counters → List Visit → Option Span
first_over c [] = None
first_over c (v ∷ vs) = if not v.too_deep && fits c v.cost then first_over (sum_of c v.cost) vs else Some v.span

-- a node with its parts
abbrev pub as_star : Span → ℕ → Tree → Tree
as_star span n t = trees.Star (spot_of span n) t

abbrev pub as_hold : Span → ℕ → Term → Tree → Tree
as_hold span n b t = trees.Hold (spot_of span n) b t

abbrev pub as_pair : Span → ℕ → Pairing → Tree → Tree → Tree
as_pair span n Sequence t u = trees.Seq (spot_of span n) t u
as_pair span n Choice t u = trees.Choice (spot_of span n) t u

abbrev pub as_scope : Span → ℕ → ℕ → Tree → Tree → Tree → Tree
as_scope span n s t u v = trees.Scope (spot_of span n) s t u v

-- the tree, whose first node has so many nodes, places and scopes before it
abbrev pub numbered : Walk → Counters → Tree
numbered (Beyond span) c = trees.Empty (spot_of span c.nodes)
numbered (Empty span) c = trees.Empty (spot_of span c.nodes)
numbered (Terminal span t) c = trees.Terminal (spot_of span c.nodes) c.places t
numbered (Action span a) c = trees.Action (spot_of span c.nodes) a
numbered (Name span w) c = numbered w (sum_of c name_cost)
numbered (Star span w) c = as_star span c.nodes (numbered w (sum_of c node_cost))
numbered (Hold span b w) c = as_hold span c.nodes b (numbered w (sum_of c (hold_cost b)))
numbered (Pair span by v w) c =
    let inside = sum_of c node_cost in
    as_pair span c.nodes by (numbered v inside) (numbered w (after_visits inside (visits v)))
numbered (Scope span v w x) c =
    let inside = sum_of c scope_cost in let after = after_visits inside (visits v) in
    as_scope span c.nodes c.scopes (numbered v inside) (numbered w after) (numbered x (after_visits after (visits w)))
