use Rattle.pbs_print.specs.Canonical.{prod_line}
use Rattle.pbs_print.proofs.JoinedPieces.{Listing}
use Rattle.pbs_print.proofs.lines.put_prods.Given as goal

abbrev pub invariant-loop-n : goal.invariant-loop-n
invariant-loop-n l = Listing prod_line l.prods l.fn.text.items l.text.items l.n
