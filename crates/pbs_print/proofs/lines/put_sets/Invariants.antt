use Rattle.pbs_print.specs.Canonical.{set_text}
use Rattle.pbs_print.proofs.JoinedPieces.{Listing}
use Rattle.pbs_print.proofs.lines.put_sets.Given as goal

abbrev pub invariant-loop-n : goal.invariant-loop-n
invariant-loop-n l = Listing set_text l.sets l.fn.text.items l.text.items l.n
