use Rattle.std.proofs.Common.{◌≡◌, ℕ, ◌<◌, ◌≤◌, length, Some}
use Rattle.std.specs.Prelude.{slice_get}
use Rattle.net_core.specs.declared.gate.Wire.{Wire}
use Rattle.net_equiv.specs.Cones.{IsLeafOf}
use Rattle.net_equiv.specs.inner.Walking.{name_at, Adds, IsPin, IsVisited, Lists, Marks}
use Rattle.net_equiv.proofs.cone.visit_pins.Given as goal

abbrev pub invariant-loop-pin : goal.invariant-loop-pin
invariant-loop-pin l = record {
  marks : Marks (IsPin l.pins) l.initial.cone.marks.items l.cone.marks.items;
  lists : Lists l.initial.cone.marks.items l.initial.cone.listed.items l.cone.marks.items l.cone.listed.items;
  long : length l.cone.marks.items ≡ length l.initial.cone.marks.items;
  known : l.cone.known.items ≡ l.initial.cone.known.items;
  adds : Adds (IsLeafOf (name_at l.names) (IsPin l.pins)) l.initial.vars.items l.vars.items;
  visited : (k : ℕ) (w : Wire) → k < l.pin-index → slice_get l.pins k ≡ Some w
      → IsVisited (name_at l.names) l.cone.marks.items l.vars.items w;
  few : length l.initial.vars.items ≤ 16 → length l.vars.items ≤ 16;
}
