use Rattle.std.proofs.Common.{refl, arith}
use Rattle.std.proofs.lemmas.Option.{slice_get_read}
use Rattle.net_tidy.proofs.Sweeping.{few_more, same_default, sweeps_more}
use Rattle.net_tidy.proofs.sweep.sweep.Goals as goal

pub loop-n-preserved : goal.loop-n-preserved
loop-n-preserved c =
    let gates = c.args.gates.now in
    let marks = c.args.marks.now in
    let n = c.loop-n.n in
    let x = c.index-gates-n.result in
    let at = slice_get_read gates _ n x refl (omega arith) c.index-gates-n.is in
    let kept = rw c.as_slice.ensures at c.in_ok-place.ensures in
    record {
      few =
          few_more _ c.loop-n.kept c.keep.new.kept c.loop-n.places x c.in_ok-place.place n kept c.loop-n.invariant.few;
      sweeps = λ i r fit.
          sweeps_more i r gates marks n x c.loop-n.kept c.keep.new.kept c.loop-n.places c.push.new.self _
          c.in_ok-place.place fit at (same_default marks n (omega arith)) kept c.in_ok-push.ensures.ok
          (c.loop-n.invariant.sweeps i r fit);
    }
