-- What a walk gives, a part of the tree and the counters after it, or the first node at which a limit is passed.
use Rattle.std.specs.Prelude.{◌≡◌, ◌≤◌, if◌then◌else◌, Result, Ok, Err}
use Rattle.pbs_base.specs.declared.refusal.Span.{Span}
use Rattle.pbs_ast.specs.Trees.{Tree, tree_of, spot_of}
use Rattle.pbs_ast.specs.Trees as trees
use Rattle.pbs_expand.specs.declared.build.Counters.{Counters}
use Rattle.pbs_expand.specs.declared.build.Grown as built
use Rattle.pbs_expand.specs.declared.build.Stop.{Stop}
use Rattle.pbs_expand.specs.declared.build.Stop.TheVariants as stops
use Rattle.pbs_expand.specs.Counting.{name_cost, node_cost, terminal_cost, hold_cost, scope_cost, sum_of, fits}
use Rattle.pbs_expand.specs.Walks.{Walk, Beyond, Empty, Terminal, Action, Name, Star, Hold, Pair, Scope}
use Rattle.pbs_expand.specs.Visits.{as_star, as_hold, as_pair, as_scope}

-- no limit is passed, and each node and each scope has taken a count
pub record IsWithin (c : Counters) : Type 0 where
  pub counts : c.counts ≤ 32768
  pub places : c.places ≤ 4096
  pub nodes : c.nodes ≤ c.counts
  pub scopes : c.scopes ≤ c.counts

-- what one visit may take
pub record IsCost (c : Counters) : Type 0 where
  pub counts : c.counts ≤ 32769
  pub places : c.places ≤ 1
  pub nodes : c.nodes ≤ c.counts
  pub scopes : c.scopes ≤ c.counts

-- a visit is counted, unless a limit is passed
abbrev pub enter : Span → Counters → Counters → Result Counters Stop
enter span cost before = if fits before cost then Ok (sum_of before cost) else Err (stops.Over span)

pub data Outcome : Type 0 where
  Grown : (tree : Tree) (after : Counters) → Outcome
  Over : (span : Span) → Outcome

-- the outcome of a visit, and of what follows where no limit is passed
abbrev pub after_visit : Span → Result Counters Stop → (Counters → Outcome) → Outcome
after_visit span (Ok inside) next = next inside
after_visit span (Err stop) next = Over span

abbrev pub entered : Span → Counters → Counters → (Counters → Outcome) → Outcome
entered span cost before next = after_visit span (enter span cost before) next

abbrev pub after_part : Outcome → (Tree → Counters → Outcome) → Outcome
after_part (Grown t c) next = next t c
after_part (Over span) next = Over span

abbrev pub with_tree : Outcome → (Tree → Tree) → Outcome
with_tree (Grown t c) node = Grown (node t) c
with_tree (Over span) node = Over span

abbrev pub as_grown : Tree → Counters → Outcome
as_grown t c = Grown t c

abbrev pub outcome : Walk → Counters → Outcome
outcome (Beyond span) c = Over span
outcome (Empty span) c = entered span node_cost c (as_grown (trees.Empty (spot_of span c.nodes)))
outcome (Terminal span t) c =
    entered span (terminal_cost t) c (as_grown (trees.Terminal (spot_of span c.nodes) c.places t))
outcome (Action span a) c = entered span node_cost c (as_grown (trees.Action (spot_of span c.nodes) a))
outcome (Name span w) c = entered span name_cost c (outcome w)
outcome (Star span w) c = entered span node_cost c (λ d. with_tree (outcome w d) (as_star span c.nodes))
outcome (Hold span b w) c = entered span (hold_cost b) c (λ d. with_tree (outcome w d) (as_hold span c.nodes b))
outcome (Pair span by v w) c =
    entered span node_cost c (λ d.
    after_part (outcome v d) (λ t e. with_tree (outcome w e) (as_pair span c.nodes by t)))
outcome (Scope span v w x) c =
    entered span scope_cost c (λ d.
    after_part (outcome v d) (λ t e.
    after_part (outcome w e) (λ u f. with_tree (outcome x f) (as_scope span c.nodes c.scopes t u))))

-- what the code answers is this outcome
abbrev pub IsOutcome : Outcome → Result built.Grown Stop → Type 0
IsOutcome o (Ok grown) = (o ≡ Grown (tree_of grown.tree) grown.after) × IsWithin grown.after
IsOutcome o (Err (stops.Over span)) = o ≡ Over span
IsOutcome o (Err stops.Memory) = Unit {0}
