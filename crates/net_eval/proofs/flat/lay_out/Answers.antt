use Rattle.std.proofs.Common.{◌++◌, sym, ap, ◌∙◌, arith}
use Rattle.net_eval.specs.inner.Flat.{ArePins}
use Rattle.net_eval.proofs.Flattening.{flat_more, kinds_more, pins_read}
use Rattle.net_eval.proofs.flat.lay_out.Goals as goal

pub loop-n-preserved : goal.loop-n-preserved
loop-n-preserved c =
    let gates = c.args.gates.now in
    let n = c.loop-n.n in
    let pins = c.loop-n.pins.items in
    let longer = c.in_ok-extend_from_slice.ensures.items in
    record {
      kinds = kinds_more gates n c.index-gates-n.result c.loop-n.kinds.items _ (omega arith)
          c.loop-n.invariant.kinds c.in_ok-push-2.ensures.items;
      pins = flat_more (ArePins gates) n c.len.result c.loop-n.starts.items pins c.as_slice.result.now
          c.push-in-loop-n-2.new.self.items c.extend_from_slice.new.self.items c.loop-n.invariant.pins longer
          (omega arith) c.in_ok-push-3.ensures.items
          (λ xs of.
          let read = pins_read gates n c.index-gates-n-in-loop-n.result c.as_slice.result.now (omega arith)
          c.as_slice.ensures in
          longer ∙ ap (λ ys. pins ++ ys) (read ∙ sym of));
    }
