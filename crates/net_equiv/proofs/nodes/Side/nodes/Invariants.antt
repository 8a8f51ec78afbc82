use Rattle.std.proofs.Common.{◌≡◌, length}
use Rattle.bool_bdd.specs.Diagrams.{Keeps}
use Rattle.net_equiv.specs.inner.Standing.{view_of, AreKnown}
use Rattle.net_equiv.proofs.nodes.Side.nodes.Given as goal

abbrev pub invariant-loop-i : goal.invariant-loop-i
invariant-loop-i l = record {
  keeps : Keeps l.initial.store l.store;
  marks : l.cone.marks.items ≡ l.initial.cone.marks.items;
  listed : l.cone.listed.items ≡ l.initial.cone.listed.items;
  long : length l.cone.known.items ≡ length l.self.gates.now;
  known : AreKnown l.store (view_of l.self) l.initial.cone.listed.items l.i l.cone.known.items;
}
