-- What is found of a tree: its edges, and how many different effective terms it has.
use Rattle.std.specs.Prelude.{◌≡◌, ℕ, ◌<◌, ◌≤◌, ◌↔◌, ◌⊎◌, List, length, Contains, slice_get, Some}
use Rattle.std.specs.List.{AllAdjacentBelow}
use Rattle.std.specs.List.Sorted.{IsStrictlyIncreasing}
use Rattle.bool_terms.specs.Terms.{Term}
use Rattle.pbs_ast.specs.Trees.{Tree}
use Rattle.pbs_ast.specs.Sound.{place_count}
use Rattle.pbs_edges.specs.Edges.{Round, First, Follow}
use Rattle.pbs_edges.specs.Listed.{follow_edges}
use Rattle.pbs_edges.specs.Effective.{effective_term, effective_terms}
use Rattle.pbs_edges.specs.declared.edge.Edge.{Edge}
use Rattle.pbs_edges.specs.declared.edge.Edges.{Edges}
use Rattle.pbs_edges.specs.declared.fail.EdgeFail.{EdgeFail}
use Rattle.pbs_edges.specs.declared.fail.EdgeFail.TheVariants.{TooManyEdges, TooManyTerms, Memory}

abbrev pub IsFirstPlace : Tree → ℕ → Type 0
IsFirstPlace main p = (rounds : List Round) × First main p rounds

abbrev pub IsFollowEdge : Tree → Edge → Type 0
IsFollowEdge main d = (above left entered : List Round) × Follow main d.from d.to d.node above left entered

-- by the place that is left, then by the one that is reached, then by the node
abbrev pub IsBefore : Edge → Edge → Type 0
IsBefore d e = (d.from < e.from)
    ⊎ ((d.from ≡ e.from) × ((d.to < e.to) ⊎ ((d.to ≡ e.to) × (d.node < e.node))))

-- at most n lists of terms are effective terms of the tree's places
pub record HasFewTerms (main : Tree) (n : ℕ) : Type 0 where
  pub some : List (List Term)
  pub few : length some ≤ n
  pub all : (p : ℕ) → p < place_count main → Contains some (effective_term main p)

-- more than n different lists of terms are
pub record HasManyTerms (main : Tree) (n : ℕ) : Type 0 where
  pub some : List (List Term)
  pub many : n < length some
  pub effective : (ts : List Term) → Contains some ts → Contains (effective_terms main) ts
  pub different : (i j : ℕ) (ts : List Term) → slice_get some i ≡ Some ts → slice_get some j ≡ Some ts → i ≡ j

-- the first places and the follow edges of the tree, each once and in rising order, within the limits
pub record AreEdges (main : Tree) (edges : Edges) : Type 0 where
  pub starts : (p : ℕ) → Contains edges.starts p ↔ IsFirstPlace main p
  pub starts_rise : IsStrictlyIncreasing edges.starts
  pub follows : (d : Edge) → Contains edges.follows d ↔ IsFollowEdge main d
  pub follows_rise : AllAdjacentBelow IsBefore edges.follows (length edges.follows)
  pub count : length edges.follows ≡ length (follow_edges main)
  pub few : length edges.follows ≤ 16384
  pub few_terms : HasFewTerms main 256

-- why there are none
abbrev pub IsEdgeCause : Tree → EdgeFail → Type 0
IsEdgeCause main TooManyEdges = 16384 < length (follow_edges main)
IsEdgeCause main TooManyTerms = (length (follow_edges main) ≤ 16384) × HasManyTerms main 256
IsEdgeCause main Memory = Unit {0}
