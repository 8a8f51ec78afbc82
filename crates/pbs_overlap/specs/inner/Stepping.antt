-- Follow edges of a tree as steps.
use Rattle.std.specs.Prelude.{◌≡◌, ℕ, List, slice_index}
use Rattle.pbs_ast.specs.Trees.{Tree}
use Rattle.pbs_edges.specs.declared.edge.Edge.{Edge}
use Rattle.pbs_overlap.specs.declared.ranges.ScopeRange.{ScopeRange}
use Rattle.pbs_overlap.specs.declared.steps.Step.{Step}
use Rattle.pbs_overlap.specs.Ranges.{leaves, ranges}
use Rattle.pbs_overlap.specs.inner.Steps.{IsAborted, IsEntered}

-- the step is the edge, by the numbers of the terminals and the ranges of the scopes
pub record IsStepBy (numbers : List ℕ) (scopes : List ScopeRange) (d : Edge) (x : Step) : Type 0 where
  pub from : x.from ≡ d.from
  pub to : x.to ≡ d.to
  pub node : x.node ≡ d.node
  pub leaf : x.leaf ≡ slice_index numbers d.from
  pub aborts : IsAborted scopes (slice_index numbers d.from) d.node x.aborts
  pub enters : IsEntered scopes (slice_index numbers d.to) d.node x.enters

abbrev pub IsStep : Tree → Edge → Step → Type 0
IsStep main d x = IsStepBy (leaves main) (ranges main) d x
