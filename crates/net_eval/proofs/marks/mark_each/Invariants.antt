use Rattle.std.proofs.Common.{◌≡◌, ℕ, ◌||◌, take}
use Rattle.net_eval.specs.inner.Marks.{is_listed, is_marked}
use Rattle.net_eval.proofs.marks.mark_each.Given as goal

-- the numbers so far are marked too
abbrev pub invariant-loop-number : goal.invariant-loop-number
invariant-loop-number l =
    (k : ℕ) → is_marked l.words k ≡ (is_marked l.fn.words k || is_listed (take l.number-index l.numbers) k)
