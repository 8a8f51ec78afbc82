use Rattle.pbs_print.specs.Canonical.{prod_line}
use Rattle.pbs_print.proofs.JoinedPieces.{listing_next}
use Rattle.pbs_print.proofs.lines.put_prods.Goals as goal

pub loop-n-preserved : goal.loop-n-preserved
loop-n-preserved c =
    listing_next prod_line c.args.prods.now c.args.text.now.items c.loop-n.text.items c.put_prod.new.text.items
    c.loop-n.n c.in-Some.prod.now
    c.in-Some.ensures.value c.in_ok-put_prod.ensures c.loop-n.invariant
