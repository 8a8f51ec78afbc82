use Rattle.std.proofs.Common.{◌≡◌, ℕ, ◌≤◌, true, length}
use Rattle.net_core.specs.declared.gate.Wire.TheVariants as wire
use Rattle.net_equiv.specs.Cones.{InCone, IsLeafOf}
use Rattle.net_equiv.specs.inner.Walking.{is_marked, name_at, Adds, AreDone, AreListed, IsVisited}
use Rattle.net_equiv.proofs.cone.walk.Given as goal

abbrev pub invariant-loop-i : goal.invariant-loop-i
invariant-loop-i l = record {
  inside : (k : ℕ) → is_marked l.cone.marks.items k ≡ true → InCone l.gates l.fn.root (wire.Gate k);
  listed : AreListed l.cone.marks.items l.cone.listed.items;
  adds : Adds (IsLeafOf (name_at l.names) (InCone l.gates l.fn.root)) l.fn.vars.items l.vars.items;
  root_visited : IsVisited (name_at l.names) l.cone.marks.items l.vars.items l.fn.root;
  done : AreDone l.gates (name_at l.names) l.i l.cone.listed.items l.cone.marks.items l.vars.items;
  few : length l.fn.vars.items ≤ 16 → length l.vars.items ≤ 16;
  long : length l.cone.marks.items ≡ length l.gates;
  known : l.cone.known.items ≡ l.fn.cone.known.items;
}
