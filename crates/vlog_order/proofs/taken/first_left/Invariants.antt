use Rattle.std.proofs.Common.{◌≡◌, ℕ, ◌<◌, true}
use Rattle.vlog_order.specs.inner.Queues.{marked}
use Rattle.vlog_order.proofs.taken.first_left.Given as goal

abbrev pub invariant-loop-n : goal.invariant-loop-n
invariant-loop-n l = (k : ℕ) → k < l.n → marked l.taken k ≡ true
