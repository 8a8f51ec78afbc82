use Rattle.soak_run.specs.inner.Tallies.{Counting}
use Rattle.soak_run.proofs.counting.count_rows.Given as goal

abbrev pub invariant-loop-t : goal.invariant-loop-t
invariant-loop-t l = Counting l.fn.net l.n l.t l.sim l.counts
