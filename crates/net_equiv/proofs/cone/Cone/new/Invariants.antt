use Rattle.std.proofs.Common.{◌≡◌, ℕ, true, length}
use Rattle.net_equiv.specs.inner.Walking.{is_marked}
use Rattle.net_equiv.proofs.cone.Cone.new.Given as goal

abbrev pub invariant-loop : goal.invariant-loop
invariant-loop l = record {
  marks_long : length l.marks.items ≡ l.counter;
  known_long : length l.known.items ≡ l.counter;
  none : (k : ℕ) → is_marked l.marks.items k ≡ true → ⊥;
}
