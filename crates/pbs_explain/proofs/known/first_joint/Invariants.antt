use Rattle.std.proofs.Common.{◌≡◌, ◌≤◌, ◌<◌, ℕ, false, ◌&&◌}
use Rattle.pbs_covers.specs.Grids.{at}
use Rattle.pbs_explain.proofs.known.first_joint.Given as goal

abbrev pub invariant-loop-m : goal.invariant-loop-m
invariant-loop-m l = (p : ℕ) → l.k ≤ p → p < l.m → (at l.n l.left l.i p && at l.n l.right p l.j) ≡ false
