use Rattle.std.proofs.Common.{◌++◌, ap, ◌∙◌}
use Rattle.std.specs.Prelude.{codes}
use Rattle.pbs_print.specs.Canonical.{bracketed, term_text}
use Rattle.pbs_print.proofs.JoinedPieces.{writing_next, wrote_all, wrote_any, all_member, any_member}
use Rattle.pbs_print.proofs.terms.+terms.Goals as goal

pub put_term-returns-in-All : goal.put_term-returns-in-All
put_term-returns-in-All t c = wrote_all c.args.term.now c.in-All.items c.put_all.result c.args.text.now.items
    c.put_all.new.text.items c.in-All.is c.put_all.ensures

pub put_term-returns-in-Any : goal.put_term-returns-in-Any
put_term-returns-in-Any t c = wrote_any c.args.term.now c.in-Any.items c.put_any.result c.args.text.now.items
    c.put_any.new.text.items c.in-Any.is c.put_any.ensures

pub put_all-loop-n-preserved : goal.put_all-loop-n-preserved
put_all-loop-n-preserved t c =
    writing_next all_member (codes " & ") c.args.items.now c.args.text.now.items c.loop-n.text.items
    c.put_lead.new.text.items
    c.put_bracketed.new.text.items c.loop-n.n c.in-Some.item.now c.in-Some.ensures.value c.in_ok-put_lead.ensures
    (c.in_ok-put_bracketed.ensures ∙ ap (λ b. c.put_lead.new.text.items ++ bracketed b (term_text c.in-Some.item.now))
    c.is_joined.ensures)
    c.loop-n.invariant

pub put_any-loop-n-preserved : goal.put_any-loop-n-preserved
put_any-loop-n-preserved t c =
    writing_next any_member (codes " | ") c.args.items.now c.args.text.now.items c.loop-n.text.items
    c.put_lead.new.text.items
    c.put_bracketed.new.text.items c.loop-n.n c.in-Some.item.now c.in-Some.ensures.value c.in_ok-put_lead.ensures
    (c.in_ok-put_bracketed.ensures ∙ ap (λ b. c.put_lead.new.text.items ++ bracketed b (term_text c.in-Some.item.now))
    c.is_any.ensures)
    c.loop-n.invariant
