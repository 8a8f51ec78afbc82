use Rattle.std.proofs.Common.{◌-◌, length, refl, ◌∙◌, arith}
use Rattle.std.proofs.lemmas.Option.{slice_get_read}
use Rattle.net_tidy.proofs.Marking.{closed_more, pin_more}
use Rattle.net_tidy.proofs.mark.close.Goals as goal

pub loop-k-preserved : goal.loop-k-preserved
loop-k-preserved c =
    let gates = c.args.gates.now in
    let k = c.loop-k.k in
    let n = length gates - 1 - k in
    let x = c.index-gates-n.result in
    let at = slice_get_read gates _ n x refl (omega arith) c.index-gates-n.is in
    let before = c.loop-k.invariant in
    record {
      long = c.mark_pins.ensures.long ∙ before.long;
      keeps = λ w h. c.mark_pins.ensures.keeps w (before.keeps w h);
      only = λ m h.
          pin_more gates c.args.marks.now c.loop-k.marks c.mark_pins.new.marks n x at c.mark_pins.ensures before.only m
          h;
      closed = λ i r fit.
          closed_more i r gates c.loop-k.marks c.mark_pins.new.marks k n x fit at (omega arith) c.mark_pins.ensures
          (before.closed i r fit);
    }
