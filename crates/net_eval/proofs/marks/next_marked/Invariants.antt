use Rattle.std.proofs.Common.{◌≡◌, ℕ, ◌≤◌, ◌<◌, ◌*◌, false}
use Rattle.net_eval.specs.inner.Marks.{is_marked}
use Rattle.net_eval.proofs.marks.next_marked.Given as goal

-- no number of the words so far is marked
abbrev pub invariant-loop-w : goal.invariant-loop-w
invariant-loop-w l = (k : ℕ) → l.from ≤ k → k < 64 * l.w → is_marked l.words k ≡ false
