use Rattle.std.specs.Prelude.{codes}
use Rattle.pbs_print.proofs.JoinedPieces.{Writing, all_member, any_member}
use Rattle.pbs_print.proofs.terms.+terms.Given as goal

abbrev pub invariant-put_all-loop-n : goal.invariant-put_all-loop-n
invariant-put_all-loop-n l = Writing all_member (codes " & ") l.items l.fn.text.items l.text.items l.n

abbrev pub invariant-put_any-loop-n : goal.invariant-put_any-loop-n
invariant-put_any-loop-n l = Writing any_member (codes " | ") l.items l.fn.text.items l.text.items l.n
