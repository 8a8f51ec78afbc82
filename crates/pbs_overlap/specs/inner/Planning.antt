-- The plan of a search for a tree.
use Rattle.std.specs.Prelude.{◌≡◌, ℕ, ◌<◌, ◌≤◌, List, length, slice_index, slice_index_or}
use Rattle.pbs_ast.specs.Trees.{Tree}
use Rattle.pbs_ast.specs.Sound.{place_count}
use Rattle.pbs_edges.specs.declared.edge.Edge.{Edge}
use Rattle.pbs_overlap.specs.declared.ranges.ScopeRange.{ScopeRange}
use Rattle.pbs_overlap.specs.declared.steps.Step.{Step}
use Rattle.pbs_overlap.specs.declared.search.Plan.{Plan}
use Rattle.pbs_overlap.specs.inner.Joints.{TellsJoint}
use Rattle.pbs_overlap.specs.inner.Search.{IsShaped, EachFromBelow, step_at, first_at}
use Rattle.pbs_overlap.specs.inner.Stepping.{IsStep, IsStepBy}

abbrev pub no_edge : Edge
no_edge = record { from = 0; to = 0; node = 0 }

abbrev pub edge_at : List Edge → ℕ → Edge
edge_at edges k = slice_index_or edges k no_edge

abbrev pub FromsRise : List Edge → Type 0
FromsRise edges = (i j : ℕ) → i ≤ j → j < length edges → (edge_at edges i).from ≤ (edge_at edges j).from

-- the edges before number k leave places before this one, and the others don't
pub record IsSplit (edges : List Edge) (place k : ℕ) : Type 0 where
  pub within : k ≤ length edges
  pub before : (i : ℕ) → i < k → (edge_at edges i).from < place
  pub after : (i : ℕ) → k ≤ i → i < length edges → place ≤ (edge_at edges i).from

-- so for each of the first n places
pub record AreSplit (edges : List Edge) (n : ℕ) (firsts : List ℕ) : Type 0 where
  pub size : length firsts ≡ n
  pub each : (place : ℕ) → place < n → IsSplit edges place (slice_index firsts place)

-- the first n edges as steps
pub record AreStepsOf (leaves : List ℕ) (ranges : List ScopeRange) (edges : List Edge) (n : ℕ)
    (steps : List Step) : Type 0 where
  pub size : length steps ≡ n
  pub each : (k : ℕ) → k < n → IsStepBy leaves ranges (edge_at edges k) (step_at steps k)

-- the plan is that of the tree with these edges
pub record IsPlan (main : Tree) (edges : List Edge) (plan : Plan) : Type 0 where
  pub shaped : IsShaped plan
  pub froms : EachFromBelow plan
  pub places : plan.places ≡ place_count main
  pub size : length plan.steps.items ≡ length edges
  pub steps : (k : ℕ) → k < length edges → IsStep main (edge_at edges k) (step_at plan.steps.items k)
  pub split : (place : ℕ) → place ≤ plan.places → IsSplit edges place (first_at plan place)
  pub joint : TellsJoint main plan.terms
