use Rattle.pbs_print.specs.Canonical.{level_line}
use Rattle.pbs_print.proofs.JoinedPieces.{listing_next}
use Rattle.pbs_print.proofs.lines.put_levels.Goals as goal

pub loop-n-preserved : goal.loop-n-preserved
loop-n-preserved c =
    listing_next level_line c.args.levels.now c.args.text.now.items c.loop-n.text.items c.put_level.new.text.items
    c.loop-n.n c.in-Some.level.now
    c.in-Some.ensures.value c.in_ok-put_level.ensures c.loop-n.invariant
