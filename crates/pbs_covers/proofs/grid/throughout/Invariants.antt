use Rattle.std.proofs.Common.{◌≡◌, ◌≤◌, ◌<◌, ℕ, true}
use Rattle.pbs_covers.specs.Grids.{entry}
use Rattle.pbs_covers.proofs.grid.throughout.Given as goal

abbrev pub invariant-loop-m : goal.invariant-loop-m
invariant-loop-m l = (p : ℕ) → l.i ≤ p → p < l.m → entry l.truths p ≡ true
