use Rattle.std.proofs.Common.{◌+◌, drop, ap, sym, ◌∙◌}
use Rattle.pbs_check.specs.Least.{least_by}
use Rattle.pbs_check.specs.inner.Walking.{own_broken, inside, inside_all, below_kind}
use Rattle.pbs_check.proofs.LeastLemmas.{least_step, three_least}
use Rattle.pbs_check.proofs.WalkLemmas.{inside_at, below_seq, below_choice}
use Rattle.pbs_check.proofs.uses.+expr.Goals as goal

pub all_broken-loop-item-preserved : goal.all_broken-loop-item-preserved
all_broken-loop-item-preserved t c =
    let items = c.as_slice-item-items.result.now in let i = c.loop-item.item-index in let f = own_broken c.args.look
    c.args.tables.now c.args.inputs.now in
    least_step f (least_by f (inside_all items)) c.expr_broken.result c.loop-item.found c.least_of-found.result
    (inside_all (drop i items)) (inside c.item-item.result) (inside_all (drop (i + 1) items))
    (inside_at items i c.item-item.result c.loop-item-test.true c.item-item.is) c.loop-item.invariant
    c.expr_broken.ensures c.least_of-found.ensures

pub parts_broken-returns-in-Seq : goal.parts_broken-returns-in-Seq
parts_broken-returns-in-Seq t c =
    c.all_broken.ensures ∙ ap (least_by (own_broken c.args.look c.args.tables.now c.args.inputs.now))
    (sym (below_seq c.args.expr.now c.in-Seq.items c.in-Seq.is))

pub parts_broken-returns-in-Choice : goal.parts_broken-returns-in-Choice
parts_broken-returns-in-Choice t c =
    c.all_broken-in-Choice.ensures ∙ ap (least_by (own_broken c.args.look c.args.tables.now c.args.inputs.now))
    (sym (below_choice c.args.expr.now c.in-Choice.items c.in-Choice.is))

pub parts_broken-returns-in-Scope : goal.parts_broken-returns-in-Scope
parts_broken-returns-in-Scope t c =
    let f = own_broken c.args.look c.args.tables.now c.args.inputs.now in
    three_least f (inside c.in-Scope.body.value) (inside c.in-Scope.trap.value) (inside c.in-Scope.after.value)
    c.expr_broken-in-Scope-3.result c.expr_broken-in-Scope.result c.expr_broken-in-Scope-2.result
    c.least_of-last.result c.least_of.result
    (c.expr_broken-in-Scope-3.ensures ∙ ap (λ e. least_by f (inside e)) c.deref-in-Scope-3.ensures)
    (c.expr_broken-in-Scope.ensures ∙ ap (λ e. least_by f (inside e)) c.deref-in-Scope.ensures)
    (c.expr_broken-in-Scope-2.ensures ∙ ap (λ e. least_by f (inside e)) c.deref-in-Scope-2.ensures)
    c.least_of-last.ensures c.least_of.ensures
    ∙ ap (least_by f) (sym (ap below_kind c.in-Scope.is))
