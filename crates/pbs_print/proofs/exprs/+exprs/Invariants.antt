use Rattle.std.specs.Prelude.{codes}
use Rattle.pbs_print.proofs.JoinedPieces.{Writing, seq_member, choice_member}
use Rattle.pbs_print.proofs.exprs.+exprs.Given as goal

abbrev pub invariant-put_seq-loop-n : goal.invariant-put_seq-loop-n
invariant-put_seq-loop-n l = Writing seq_member (codes ", ") l.items l.fn.text.items l.text.items l.n

abbrev pub invariant-put_choice-loop-n : goal.invariant-put_choice-loop-n
invariant-put_choice-loop-n l = Writing choice_member (codes " | ") l.items l.fn.text.items l.text.items l.n
