use Rattle.std.proofs.Common.{◌++◌, ap, sym, ◌∙◌}
use Rattle.pbs_names.specs.Numbers.{number_in}
use Rattle.pbs_names.specs.Forms.{form_of}
use Rattle.pbs_check.specs.inner.Links.{own_links, links_in}
use Rattle.pbs_check.specs.inner.Walking.{inside, below_kind, inside_all}
use Rattle.pbs_check.proofs.GraphLemmas.{on_ok, links_step, seq_links, choice_links, three_links}
use Rattle.pbs_check.proofs.graph.+links.Goals as goal

pub push_all-loop-item-preserved : goal.push_all-loop-item-preserved
push_all-loop-item-preserved t c =
    links_step (number_in c.args.numbers.now) c.as_slice-item-items.result.now c.loop-item.item-index c.item-item.result
    c.loop-item.out.items c.push_links.new.out.items
    (c.args.out.now.items ++ links_in (number_in c.args.numbers.now) (inside_all c.as_slice-item-items.result.now))
    c.loop-item-test.true c.item-item.is c.loop-item.invariant c.in_ok-push_links.ensures

pub push_links-returns-in-Seq : goal.push_links-returns-in-Seq
push_links-returns-in-Seq t c =
    on_ok c.push_all.result c.push_all.ensures (λ grown. grown
    ∙ ap (λ ls. c.args.out.now.items ++ ls) (seq_links (number_in c.args.numbers.now) c.args.expr.now c.in-Seq.items
    c.in-Seq.is))

pub push_links-returns-in-Choice : goal.push_links-returns-in-Choice
push_links-returns-in-Choice t c =
    on_ok c.push_all-in-Choice.result c.push_all-in-Choice.ensures
    (λ grown. grown ∙ ap (λ ls. c.args.out.now.items ++ ls)
    (choice_links (number_in c.args.numbers.now) c.args.expr.now c.in-Choice.items c.in-Choice.is))

pub push_links-returns-in_ok-push_links-in-Scope-2 : goal.push_links-returns-in_ok-push_links-in-Scope-2
push_links-returns-in_ok-push_links-in-Scope-2 t c =
    let number = number_in c.args.numbers.now in let e = c.args.expr.now in
    on_ok c.push_links-in-Scope-3.result c.push_links-in-Scope-3.ensures (λ last.
    three_links number (inside c.in-Scope.body.value) (inside c.in-Scope.trap.value) (inside c.in-Scope.after.value)
    c.args.out.now.items c.push_links-in-Scope.new.out.items c.push_links-in-Scope-2.new.out.items
    c.push_links-in-Scope-3.new.out.items
    (c.in_ok-push_links-in-Scope.ensures ∙ ap (λ d. c.args.out.now.items ++ links_in number (inside d))
    c.deref-in-Scope.ensures)
    (c.in_ok-push_links-in-Scope-2.ensures ∙ ap (λ d. c.push_links-in-Scope.new.out.items ++ links_in number (inside d))
    c.deref-in-Scope-2.ensures)
    (last ∙ ap (λ d. c.push_links-in-Scope-2.new.out.items ++ links_in number (inside d)) c.deref-in-Scope-3.ensures)
    ∙ ap (λ ls. c.args.out.now.items ++ ls) (sym (ap (λ k. own_links number e.span (form_of k) ++ links_in number
    (below_kind k)) c.in-Scope.is)))
