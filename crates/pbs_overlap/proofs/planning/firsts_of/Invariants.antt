use Rattle.std.proofs.Common.{ℕ, ◌<◌, ◌≤◌, length}
use Rattle.pbs_overlap.specs.inner.Planning.{AreSplit, edge_at}
use Rattle.pbs_overlap.proofs.planning.firsts_of.Given as goal

abbrev pub invariant-loop-place : goal.invariant-loop-place
invariant-loop-place l = AreSplit l.edges l.place l.firsts.items × (l.k ≤ length l.edges)
    × ((i : ℕ) → i < l.k → (edge_at l.edges i).from < l.place)
