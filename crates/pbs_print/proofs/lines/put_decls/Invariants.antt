use Rattle.std.specs.Prelude.{codes}
use Rattle.pbs_print.specs.Canonical.{decl_text}
use Rattle.pbs_print.proofs.JoinedPieces.{Writing}
use Rattle.pbs_print.proofs.lines.put_decls.Given as goal

abbrev pub invariant-loop-n : goal.invariant-loop-n
invariant-loop-n l = Writing decl_text (codes ", ") l.decls l.fn.text.items l.text.items l.n
