use Rattle.std.proofs.Common.{get_or, refl, arith}
use Rattle.std.proofs.lemmas.Option.{slice_get-get_or}
use Rattle.vlog_order.proofs.Marking.{marked_more}
use Rattle.vlog_order.proofs.taken.mark_taken.Goals as goal

pub loop-gate-preserved : goal.loop-gate-preserved
loop-gate-preserved c =
    let i = c.loop-gate.gate-index in
    let k = get_or c.args.order.now i 0 in
    marked_more c.args.count c.args.order.now i k c.loop-gate.taken.items (omega arith) refl
    (c.requires i k (slice_get-get_or c.args.order.now i 0 (omega arith))) c.loop-gate.invariant
