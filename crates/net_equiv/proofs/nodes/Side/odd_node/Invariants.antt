use Rattle.std.proofs.Common.{Bool, drop}
use Rattle.bool_bdd.specs.Diagrams.{Keeps}
use Rattle.net_core.specs.Rows.{odd_of, differs}
use Rattle.net_equiv.specs.inner.Standing.{view_of}
use Rattle.net_equiv.proofs.Telling.{Part}
use Rattle.net_equiv.proofs.nodes.Side.odd_node.Given as goal

abbrev pub invariant-loop-pin : goal.invariant-loop-pin
invariant-loop-pin l = record {
  keeps : Keeps l.initial.store l.store;
  part : Part l.store (view_of l.self) (λ (x y : Bool). differs x y) l.odd (λ z. odd_of z (drop l.pin-index l.pins)) (λ z. odd_of z l.pins);
}
