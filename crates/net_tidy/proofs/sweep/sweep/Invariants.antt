use Rattle.std.proofs.Common.{ℕ, ◌≤◌, length}
use Rattle.net_tidy.specs.inner.Marks.{SweepsTo}
use Rattle.net_tidy.specs.inner.Made.{AllFit}
use Rattle.net_tidy.proofs.sweep.sweep.Given as goal

abbrev pub invariant-loop-n : goal.invariant-loop-n
invariant-loop-n l = record {
  few : length l.kept ≤ l.n;
  sweeps : (i r : ℕ) → AllFit i r l.gates → SweepsTo i r l.gates l.marks l.n l.kept l.places;
}
