use Rattle.std.proofs.Common.{ℕ, ◌<◌, ◌≤◌, ◌-◌, length}
use Rattle.pbs_overlap.specs.inner.Planning.{edge_at}
use Rattle.pbs_overlap.proofs.planning.skip.Given as goal

abbrev pub invariant-loop-k : goal.invariant-loop-k
invariant-loop-k l = (l.from ≤ l.k) × (l.k ≤ length l.edges)
    × ((i : ℕ) → i < l.k → (edge_at l.edges i).from < l.place)

abbrev pub decreases-loop-k : goal.decreases-loop-k
decreases-loop-k l = length l.edges - l.k
