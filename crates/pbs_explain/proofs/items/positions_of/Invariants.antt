use Rattle.std.proofs.Common.{◌≡◌, ◌+◌, ◌≤◌, ℕ, length, Some}
use Rattle.std.specs.Prelude.{slice_get}
use Rattle.pbs_explain.specs.inner.Checked.{reached}
use Rattle.pbs_explain.proofs.items.positions_of.Given as goal

abbrev pub invariant-loop-c : goal.invariant-loop-c
invariant-loop-c l = record {
  filled : length l.positions ≡ l.c + 1;
  here : l.from ≡ reached 0 l.items l.c;
  exact : (k : ℕ) → k ≤ l.c → slice_get l.positions k ≡ Some (reached 0 l.items k);
}
