use Rattle.std.proofs.Common.{Bool, false, ◌||◌, drop, get_or, refl, List}
use Rattle.net_core.specs.declared.gate.Wire.{Wire}
use Rattle.net_core.specs.declared.gate.Wire.TheVariants.{Const}
use Rattle.net_core.specs.Rows.{any_of, Row}
use Rattle.net_equiv.specs.inner.Standing.{view_of}
use Rattle.net_equiv.proofs.Telling.{drop_here, drop_past, fold_begin, fold_end, fold_step, keeps_same, keeps_then, ready_at, or_assoc, or_end}
use Rattle.net_equiv.proofs.nodes.Side.any_node.Goals as goal

pub loop-pin-init : goal.loop-pin-init
loop-pin-init c = record {
  keeps = keeps_same c.args.store.now;
  part = fold_begin (view_of c.args.self.now) (λ (x y : Bool). x || y) (λ (z : Row) (us : List Wire). any_of z us)
      c.args.store.now false c.args.pins.now (λ x. refl);
}

pub wire_node-requires-clause-ready : goal.wire_node-requires-clause-ready
wire_node-requires-clause-ready c =
    ready_at c.args.store.now c.loop-pin.store (view_of c.args.self.now) c.args.known.now c.args.pins.now
    c.loop-pin.pin-index c.loop-pin.invariant.keeps c.requires.ready c.loop-pin-test.true

pub loop-pin-preserved : goal.loop-pin-preserved
loop-pin-preserved c = record {
  keeps = keeps_then c.args.store.now c.loop-pin.store c.either.new.store c.loop-pin.invariant.keeps
      (keeps_then c.loop-pin.store c.wire_node.new.store c.either.new.store c.wire_node.ensures.keeps
      c.either.ensures.keeps);
  part = fold_step (view_of c.args.self.now) (λ (x y : Bool). x || y) (λ (z : Row) (us : List Wire). any_of z us)
      c.loop-pin.store c.wire_node.new.store c.either.new.store c.args.pins.now c.loop-pin.pin-index
      (get_or c.args.pins.now c.loop-pin.pin-index (Const false)) c.loop-pin.any c.in_ok-node.node c.in_ok-any.any
      or_assoc (λ z u us. refl) (drop_here c.args.pins.now c.loop-pin.pin-index c.loop-pin-test.true)
      c.loop-pin.invariant.part c.wire_node.ensures.keeps c.in_ok-node.ensures.tells c.in_ok-any.ensures.stands;
}

pub returns-clause-tells : goal.returns-clause-tells
returns-clause-tells c =
    fold_end (view_of c.args.self.now) (λ (x y : Bool). x || y) (λ (z : Row) (us : List Wire). any_of z us)
    c.loop-pin.store c.args.pins.now (drop c.loop-pin.pin-index c.args.pins.now) c.loop-pin.any
    (drop_past c.args.pins.now c.loop-pin.pin-index c.loop-pin-test.false) (λ x z. or_end x) c.loop-pin.invariant.part
