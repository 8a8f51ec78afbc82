use Rattle.pbs_print.specs.Canonical.{level_line}
use Rattle.pbs_print.proofs.JoinedPieces.{Listing}
use Rattle.pbs_print.proofs.lines.put_levels.Given as goal

abbrev pub invariant-loop-n : goal.invariant-loop-n
invariant-loop-n l = Listing level_line l.levels l.fn.text.items l.text.items l.n
