use Rattle.std.proofs.Common.{◌≡◌, ◌≤◌, ◌<◌, ℕ, length}
use Rattle.pbs_covers.specs.Grids.{entry}
use Rattle.pbs_covers.specs.inner.Tables.{step_alive}
use Rattle.pbs_covers.proofs.step.alive_row.Given as goal

abbrev pub invariant-loop-j : goal.invariant-loop-j
invariant-loop-j l = record {
  filled : length l.row ≡ l.j;
  exact : (k : ℕ) → l.i ≤ k → k < l.j → entry l.row k ≡ step_alive l.step l.n l.own l.i k;
}
