use Rattle.std.proofs.Common.{◌≡◌, ◌<◌, ◌≤◌, ◌-◌, true, length}
use Rattle.net_core.specs.Rows.{IsRow, Row}
use Rattle.net_eval.specs.inner.Marks.{Looks, is_marked}
use Rattle.net_eval.specs.States.{begun_row}
use Rattle.net_eval.proofs.events.settle_waiting.Given as goal

abbrev pub invariant-loop-n : goal.invariant-loop-n
invariant-loop-n l = record {
  few : l.count ≤ l.n;
  marked : l.n < length l.net.gates → is_marked l.words l.n ≡ true;
  looks : (before : Row) → IsRow l.net.gates before
      → Looks l.net.gates before (begun_row l.row l.fn.gates) l.fn.words 0 0
      → Looks l.net.gates before (begun_row l.row l.gates) l.words l.n l.count;
}

abbrev pub decreases-loop-n : goal.decreases-loop-n
decreases-loop-n l = length l.net.gates - l.n
