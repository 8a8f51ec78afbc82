use Rattle.pbs_print.specs.Canonical.{set_text}
use Rattle.pbs_print.proofs.JoinedPieces.{listing_next}
use Rattle.pbs_print.proofs.lines.put_sets.Goals as goal

pub loop-n-preserved : goal.loop-n-preserved
loop-n-preserved c =
    listing_next set_text c.args.sets.now c.args.text.now.items c.loop-n.text.items c.put_set.new.text.items c.loop-n.n
    c.in-Some.set.now
    c.in-Some.ensures.value c.in_ok-put_set.ensures c.loop-n.invariant
