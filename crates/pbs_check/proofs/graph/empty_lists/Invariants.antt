use Rattle.std.proofs.Common.{◌≡◌, ℕ, length}
use Rattle.pbs_check.specs.inner.Links.{HasNext}
use Rattle.pbs_check.proofs.graph.empty_lists.Given as goal

abbrev pub invariant-loop-number : goal.invariant-loop-number
invariant-loop-number l = record {
  size : length l.lists.items ≡ l._number;
  none : (k u : ℕ) → HasNext l.lists.items k u → ⊥;
}
