-- An edge by its three numbers in a numbered tree: what it aborts, enters, lies inside and leaves.
use Rattle.std.specs.Prelude.{ℕ, ◌⊎◌}
use Rattle.pbs_ast.specs.Trees.{Tree}
use Rattle.pbs_edges.specs.Edges.{Body, Trap, Among}
use Rattle.pbs_edges.specs.inner.Rounds.{place_rounds, node_rounds}
use Rattle.pbs_edges.specs.declared.edge.Edge.{Edge}
use Rattle.pbs_edges.specs.Walks.{CanOpenTogether}

abbrev pub PlaceInBody : Tree → (p s : ℕ) → Type 0
PlaceInBody main p s = Among (place_rounds main 0 p) (Body s)

abbrev pub PlaceInTrap : Tree → (p s : ℕ) → Type 0
PlaceInTrap main p s = Among (place_rounds main 0 p) (Trap s)

abbrev pub NodeInBody : Tree → (n s : ℕ) → Type 0
NodeInBody main n s = Among (node_rounds main 0 n) (Body s)

abbrev pub NodeInTrap : Tree → (n s : ℕ) → Type 0
NodeInTrap main n s = Among (node_rounds main 0 n) (Trap s)

-- the place that is left lies in the trap of s, and the node doesn't
abbrev pub AbortsByNumber : Tree → (from node s : ℕ) → Type 0
AbortsByNumber main from node s = PlaceInTrap main from s × (NodeInTrap main node s → ⊥)

-- the place that is reached lies in the body or the trap of s, and the node lies in neither
abbrev pub EntersByNumber : Tree → (to node s : ℕ) → Type 0
EntersByNumber main to node s = (PlaceInBody main to s ⊎ PlaceInTrap main to s) × (NodeInBody main node s → ⊥) ×
    (NodeInTrap main node s → ⊥)

abbrev pub LeavesByNumber : Tree → (from s : ℕ) → Type 0
LeavesByNumber main from s = PlaceInBody main from s ⊎ PlaceInTrap main from s

-- the first edge aborts no scope that the second one leaves without aborting it
abbrev pub AbortsAgreeByNumber : Tree → Edge → Edge → Type 0
AbortsAgreeByNumber main d e =
    (s : ℕ) → AbortsByNumber main d.from d.node s → LeavesByNumber main e.from s →
    (AbortsByNumber main e.from e.node s → ⊥) → ⊥

-- what lets two follow edges be taken in one step
pub record Fits (main : Tree) (d e : Edge) : Type 0 where
  pub terms : CanOpenTogether main d.from e.from
  pub aborts : AbortsAgreeByNumber main d e
  pub aborts_back : AbortsAgreeByNumber main e d

-- a step by these edges refuses s
abbrev pub RefusesByNumber : Tree → Edge → Edge → ℕ → Type 0
RefusesByNumber main d e s = (NodeInBody main d.node s × EntersByNumber main e.to e.node s) ⊎
    (EntersByNumber main d.to d.node s × NodeInBody main e.node s)
