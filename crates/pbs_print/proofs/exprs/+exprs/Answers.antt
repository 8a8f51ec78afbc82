use Rattle.std.proofs.Common.{◌++◌, ap, ◌∙◌}
use Rattle.std.specs.Prelude.{codes}
use Rattle.pbs_print.specs.Canonical.{bracketed, kind_text}
use Rattle.pbs_print.proofs.JoinedPieces.{writing_next, wrote_seq, wrote_choice, seq_member, choice_member}
use Rattle.pbs_print.proofs.exprs.+exprs.Goals as goal

pub put_expr-returns-in-Seq : goal.put_expr-returns-in-Seq
put_expr-returns-in-Seq t c = wrote_seq c.args.e.now.kind c.in-Seq.items c.put_seq.result c.args.text.now.items
    c.put_seq.new.text.items c.in-Seq.is c.put_seq.ensures

pub put_expr-returns-in-Choice : goal.put_expr-returns-in-Choice
put_expr-returns-in-Choice t c = wrote_choice c.args.e.now.kind c.in-Choice.items c.put_choice.result
    c.args.text.now.items c.put_choice.new.text.items c.in-Choice.is c.put_choice.ensures

pub put_seq-loop-n-preserved : goal.put_seq-loop-n-preserved
put_seq-loop-n-preserved t c =
    writing_next seq_member (codes ", ") c.args.items.now c.args.text.now.items c.loop-n.text.items
    c.put_lead.new.text.items
    c.put_bracketed.new.text.items c.loop-n.n c.in-Some.item.now c.in-Some.ensures.value c.in_ok-put_lead.ensures
    (c.in_ok-put_bracketed.ensures ∙ ap (λ b. c.put_lead.new.text.items ++ bracketed b
    (kind_text c.in-Some.item.now.kind)) c.is_list.ensures)
    c.loop-n.invariant

pub put_choice-loop-n-preserved : goal.put_choice-loop-n-preserved
put_choice-loop-n-preserved t c =
    writing_next choice_member (codes " | ") c.args.items.now c.args.text.now.items c.loop-n.text.items
    c.put_lead.new.text.items
    c.put_bracketed.new.text.items c.loop-n.n c.in-Some.item.now c.in-Some.ensures.value c.in_ok-put_lead.ensures
    (c.in_ok-put_bracketed.ensures ∙ ap (λ b. c.put_lead.new.text.items ++ bracketed b
    (kind_text c.in-Some.item.now.kind)) c.is_choice.ensures)
    c.loop-n.invariant
