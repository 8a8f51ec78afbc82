use Rattle.std.proofs.Common.{◌≡◌, ◌+◌, ◌≤◌, ◌<◌, ℕ, length}
use Rattle.pbs_covers.specs.Grids.{at}
use Rattle.pbs_covers.specs.inner.Tables.{step_alive}
use Rattle.pbs_covers.proofs.step.alive_grid.Given as goal

abbrev pub invariant-loop-back : goal.invariant-loop-back
invariant-loop-back l = record {
  filled : length l.grid ≡ l.back;
  exact : (i j : ℕ) → l.n < i + l.back → i ≤ j → j ≤ l.n → at l.n l.grid i j ≡ step_alive l.step l.n l.own i j;
}
