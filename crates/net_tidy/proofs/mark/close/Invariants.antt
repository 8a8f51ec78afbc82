use Rattle.std.proofs.Common.{◌≡◌, ◌⊎◌, ℕ, length}
use Rattle.net_core.specs.declared.gate.Wire.{Wire}
use Rattle.net_tidy.specs.inner.Marks.{IsClosedOver, IsMarked, IsPinOf}
use Rattle.net_core.specs.declared.gate.Wire.TheVariants.{Gate}
use Rattle.net_tidy.specs.inner.Made.{AllFit}
use Rattle.net_tidy.proofs.mark.close.Given as goal

abbrev pub invariant-loop-k : goal.invariant-loop-k
invariant-loop-k l = record {
  long : length l.marks ≡ length l.fn.marks;
  keeps : (w : Wire) → IsMarked l.fn.marks w → IsMarked l.marks w;
  only : (n : ℕ) → IsMarked l.marks (Gate n) → IsMarked l.fn.marks (Gate n) ⊎ IsPinOf l.gates l.marks n;
  closed : (i r : ℕ) → AllFit i r l.gates → IsClosedOver l.gates l.marks l.k;
}
