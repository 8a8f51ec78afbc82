use Rattle.std.proofs.Common.{[], ◌∷◌, ◌++◌, ap, ◌∙◌}
use Rattle.std.proofs.lemmas.Result.{err_from_is_err_and}
use Rattle.pbs_ast.proofs.Items.{ok_then}
use Rattle.pbs_ast.specs.Bare.{bare_expr}
use Rattle.pbs_text.specs.declared.token.TokenKind.TheVariants.{Comma, Bar}
use Rattle.pbs_descent.proofs.TermExits.{begins, err_then}
use Rattle.pbs_descent.proofs.ExprExits.{group_empty, group_full, group_stops, group_unclosed, prim_use, prim_group}
use Rattle.pbs_descent.proofs.ExprExits.{prim_group_stops, hold_read, hold_stops, scope_read, scope_stops, item_plain}
use Rattle.pbs_descent.proofs.ExprExits.{scope_body_stops, trap_read, trap_no_abort, trap_stops, trap_no_then}
use Rattle.pbs_descent.proofs.ExprExits.{trap_after_stops, item_repeated, item_counted, item_uncounted, seq_one}
use Rattle.pbs_descent.proofs.ExprExits.{seq_first, seq_more, seq_whole, expr_one, expr_first, expr_more, expr_whole}
use Rattle.pbs_descent.proofs.exprs.+exprs.Goals as goal

pub group-returns-in-Some-behind-clause-ok : goal.group-returns-in-Some-behind-clause-ok
group-returns-in-Some-behind-clause-ok t c =
    group_empty _ _ _ _ c.in-Some.at c.in-Some-behind.close _ _ _ _ c.if-depth-eq-MAX_NESTING.false c.requires
    c.in-Some.ensures c.in-Some-behind.ensures c.joined-extent.ensures

pub group-returns-in_err-inner-clause-err : goal.group-returns-in_err-inner-clause-err
group-returns-in_err-inner-clause-err t c =
    let p = err_from_is_err_and c.from_residual.result c.from_residual.ensures.1 in
    rw (p.1, p.2)
    (group_stops _ _ _ c.in-Some.at _ _ c.in_err-inner.field-0.0 c.if-depth-eq-MAX_NESTING.false c.requires
    c.in-Some.ensures c.in_default-behind.ensures c.in_err-inner.ensures.err)

pub group-returns-in_default-behind-2-clause-err : goal.group-returns-in_default-behind-2-clause-err
group-returns-in_default-behind-2-clause-err t c =
    rw (c.let_go.ensures, c.stop-in_default-behind-2.ensures)
    (group_unclosed _ _ _ _ c.in-Some.at _ _ _ _ _ c.if-depth-eq-MAX_NESTING.false c.requires c.in-Some.ensures
    c.in_default-behind.ensures
    c.in_ok-inner.ensures.ok c.in_ok-inner.ensures.no_comma c.in_ok-inner.ensures.no_bar c.in_default-behind-2.ensures)

pub group-returns-clause-ok : goal.group-returns-clause-ok
group-returns-clause-ok t c =
    group_full _ _ _ _ c.in-Some.at c.in-Some-behind-2.close _ _ _ _ _ _ _ c.if-depth-eq-MAX_NESTING.false c.requires
    c.in-Some.ensures c.in_default-behind.ensures c.in-Some-behind-2.ensures c.joined-extent-2.ensures
    c.in_ok-inner.ensures.ok

pub hold-returns-in_err-condition-clause-err : goal.hold-returns-in_err-condition-clause-err
hold-returns-in_err-condition-clause-err t c =
    let p = err_from_is_err_and c.from_residual.result c.from_residual.ensures.1 in
    rw (p.1, p.2)
    (hold_stops c.args.two c.args.end c.args.depth c.args.at c.args.rest.now c.in_err-condition.field-0.0
    c.in_err-condition.ensures.err)

pub hold-returns-clause-ok : goal.hold-returns-clause-ok
hold-returns-clause-ok t c =
    hold_read _ _ _ _ _ _ _ _ _ _ _ _ c.in-Ok.read.0.extent c.joined-extent.ensures c.in_ok-tree.ensures.value
    c.in_ok-condition.ensures.ok c.in_ok-condition.ensures.shorter c.in-Ok.ensures.ok

pub item-returns-in_default-operator-clause-ok : goal.item-returns-in_default-operator-clause-ok
item-returns-in_default-operator-clause-ok t c = item_plain _ _ _ _ _ _ _ _ c.in_default.ensures.none
    c.in_default-operator.ensures c.in_ok-inner.ensures.ok

pub prim-returns-in-OpenRound-clause-ok : goal.prim-returns-in-OpenRound-clause-ok
prim-returns-in-OpenRound-clause-ok t c =
    ok_then c.group.result c.group.ensures.ok
    (λ x r. prim_group c.args.two c.args.bytes.now c.args.end c.args.depth c.args.tokens.now c.in-Some.rest.now x.1.now
    c.in-Some.first (bare_expr x.0.tree) x.0.extent c.in-Some.ensures c.in-OpenRound.is r)

pub prim-returns-in-OpenRound-clause-err : goal.prim-returns-in-OpenRound-clause-err
prim-returns-in-OpenRound-clause-err t c =
    err_then c.group.result c.group.ensures.err
    (λ e r. prim_group_stops c.args.two c.args.end c.args.depth c.args.tokens.now c.in-Some.rest.now c.in-Some.first
    e c.in-Some.ensures c.in-OpenRound.is r)

pub seq-returns-in_default-clause-ok : goal.seq-returns-in_default-clause-ok
seq-returns-in_default-clause-ok t c = seq_one _ _ _ _ _ _ _ _ c.in_ok-first.ensures.ok

pub seq-loop-after-init : goal.seq-loop-after-init
seq-loop-after-init t c =
    seq_first _ _ _ _ _ _ _ _ _ (c.in_ok-push.ensures.ok ∙ ap
    (λ l. l ++ c.in_ok-first.first.tree ∷ []) c.new-items.ensures)
    (begins Comma _ _ c.in-Some.field-0.0 c.in-Some.ensures) c.in_ok-first.ensures.ok

pub seq-loop-after-preserved : goal.seq-loop-after-preserved
seq-loop-after-preserved t c =
    seq_more _ _ _ _ _ _ _ _ c.in-Some-behind.field-0-0 c.in_ok-next.next.tree c.in_ok-next.next.extent _ _ _ _
    c.in-Some-behind.ensures c.in_ok-push-2.ensures.ok c.joined-extent.ensures c.loop-after.invariant
    c.in_ok-next.ensures.ok

pub seq-returns-clause-ok : goal.seq-returns-clause-ok
seq-returns-clause-ok t c = seq_whole _ _ _ _ _ _ _ _ c.loop-after.invariant c.in_default-behind.ensures

pub expr-returns-in_default-clause-ok : goal.expr-returns-in_default-clause-ok
expr-returns-in_default-clause-ok t c = expr_one _ _ _ _ _ _ _ _ c.in_ok-first.ensures.ok

pub expr-loop-after-init : goal.expr-loop-after-init
expr-loop-after-init t c =
    expr_first _ _ _ _ _ _ _ _ _ (c.in_ok-push.ensures.ok ∙ ap
    (λ l. l ++ c.in_ok-first.first.tree ∷ []) c.new-items.ensures)
    (begins Bar _ _ c.in-Some.field-0.0 c.in-Some.ensures) c.in_ok-first.ensures.no_comma c.in_ok-first.ensures.ok

pub expr-loop-after-preserved : goal.expr-loop-after-preserved
expr-loop-after-preserved t c =
    expr_more _ _ _ _ _ _ _ _ c.in-Some-behind.field-0-0 c.in_ok-next.next.tree c.in_ok-next.next.extent _ _ _ _
    c.in-Some-behind.ensures c.in_ok-push-2.ensures.ok c.joined-extent.ensures c.loop-after.invariant
    c.in_ok-next.ensures.ok c.in_ok-next.ensures.no_comma

pub expr-returns-clause-ok : goal.expr-returns-clause-ok
expr-returns-clause-ok t c = expr_whole _ _ _ _ _ _ _ _ c.loop-after.invariant c.in_default-behind.ensures

pub prim-returns-in_ok-call-in-Name-clause-ok : goal.prim-returns-in_ok-call-in-Name-clause-ok
prim-returns-in_ok-call-in-Name-clause-ok t c = prim_use _ _ _ _ _ _ c.in-Some.first _ _ c.in-Some.ensures c.in-Name.is
    c.in_ok-call-in-Name.ensures.value

pub item-returns-in_ok-counted-in-Ok-clause-ok : goal.item-returns-in_ok-counted-in-Ok-clause-ok
item-returns-in_ok-counted-in-Ok-clause-ok t c =
    item_counted _ _ _ _ _ _ _ _ _ _ c.in_ok-inner.inner.extent _ c.in-Some.field-0-0 c.in-Ok.copies.close
    c.in-Ok.copies.least c.in-Ok.copies.most c.in-Some.ensures.version c.in-Some.ensures.taken
    c.in_ok-counted-in-Ok.ensures.value c.in-Ok.ensures.ok c.in_ok-inner.ensures.ok

pub item-returns-in-Err-clause-err : goal.item-returns-in-Err-clause-err
item-returns-in-Err-clause-err t c =
    rw (c.let_go.ensures)
    (item_uncounted c.args.two c.args.bytes.now c.args.end c.args.depth c.args.tokens.now c.in_ok-inner.rest.now
    c.in-Some.rest.now (bare_expr c.in_ok-inner.inner.tree) c.in_ok-inner.inner.extent c.in-Some.field-0-0
    c.in-Err.answer c.in-Some.ensures.version c.in-Some.ensures.taken c.in-Err.ensures.err c.in_ok-inner.ensures.ok)

pub item-returns-clause-ok : goal.item-returns-clause-ok
item-returns-clause-ok t c =
    item_repeated _ _ _ _ _ _ _ _ _ c.in_ok-inner.inner.extent _ c.in-Some-operator.op c.in-Some-operator.at
    c.in_ok-repeated.ensures.value c.in-Some-operator.ensures c.in_ok-inner.ensures.ok

pub trap_and_after-returns-in_err-rest-clause-err : goal.trap_and_after-returns-in_err-rest-clause-err
trap_and_after-returns-in_err-rest-clause-err t c =
    let p = err_from_is_err_and c.from_residual.result c.from_residual.ensures.1 in
    rw (p.1, p.2)
    (trap_no_abort c.args.two c.args.end c.args.depth c.args.tokens.now c.in_err-rest.field-0.0
    c.in_err-rest.ensures.err)

pub trap_and_after-returns-in_err-trap-clause-err : goal.trap_and_after-returns-in_err-trap-clause-err
trap_and_after-returns-in_err-trap-clause-err t c =
    let p = err_from_is_err_and c.from_residual-in_err-trap.result c.from_residual-in_err-trap.ensures.1 in
    rw (p.1, p.2)
    (trap_stops c.args.two c.args.end c.args.depth c.in_ok-rest.field-0-0 c.args.tokens.now c.in_ok-rest.rest.now
    c.in_err-trap.field-0.0 c.in_ok-rest.ensures.ok c.in_err-trap.ensures.err)

pub trap_and_after-returns-in-Err-clause-err : goal.trap_and_after-returns-in-Err-clause-err
trap_and_after-returns-in-Err-clause-err t c =
    rw (c.let_go.ensures)
    (trap_no_then c.args.two c.args.bytes.now c.args.end c.args.depth c.in_ok-rest.field-0-0 c.args.tokens.now
    c.in_ok-rest.rest.now c.in_ok-trap.rest.now (bare_expr c.in_ok-trap.trap.tree) c.in_ok-trap.trap.extent
    c.in-Err.answer c.in_ok-rest.ensures.ok c.in_ok-trap.ensures.ok c.in-Err.ensures.err)

pub trap_and_after-returns-in-Err-group-clause-err : goal.trap_and_after-returns-in-Err-group-clause-err
trap_and_after-returns-in-Err-group-clause-err t c =
    rw (c.let_go-in-Err-group.ensures)
    (trap_after_stops c.args.two c.args.bytes.now c.args.end c.args.depth c.in_ok-rest.field-0-0
    c.in-Ok.found.0 c.args.tokens.now c.in_ok-rest.rest.now c.in_ok-trap.rest.now c.in-Ok.found.1.now
    (bare_expr c.in_ok-trap.trap.tree) c.in_ok-trap.trap.extent c.in-Err-group.answer c.in_ok-rest.ensures.ok
    c.in_ok-trap.ensures.ok c.in-Ok.ensures.ok c.in-Err-group.ensures.err)

pub trap_and_after-returns-in-Ok-group-clause-ok : goal.trap_and_after-returns-in-Ok-group-clause-ok
trap_and_after-returns-in-Ok-group-clause-ok t c =
    trap_read c.args.two c.args.bytes.now c.args.end c.args.depth c.in_ok-rest.field-0-0 c.in-Ok.found.0
    c.args.tokens.now c.in_ok-rest.rest.now c.in_ok-trap.rest.now c.in-Ok.found.1.now c.in-Ok-group.rest.now
    (bare_expr c.in_ok-trap.trap.tree) (bare_expr c.in-Ok-group.after.tree) c.in_ok-trap.trap.extent
    c.in-Ok-group.after.extent c.in_ok-rest.ensures.ok c.in_ok-trap.ensures.ok c.in-Ok.ensures.ok
    c.in-Ok-group.ensures.ok

pub scope-returns-in_err-body-clause-err : goal.scope-returns-in_err-body-clause-err
scope-returns-in_err-body-clause-err t c =
    let p = err_from_is_err_and c.from_residual.result c.from_residual.ensures.1 in
    rw (p.1, p.2)
    (scope_body_stops c.args.two c.args.end c.args.depth c.args.at c.args.rest.now c.in_err-body.field-0.0
    c.in_err-body.ensures.err)

pub scope-returns-in-Err-clause-err : goal.scope-returns-in-Err-clause-err
scope-returns-in-Err-clause-err t c =
    rw (c.let_go.ensures)
    (scope_stops c.args.two c.args.bytes.now c.args.end c.args.depth c.args.at c.args.rest.now c.in_ok-body.rest.now
    (bare_expr c.in_ok-body.body.tree) c.in_ok-body.body.extent c.in-Err.answer c.in_ok-body.ensures.ok
    c.in-Err.ensures.err)

pub scope-returns-in_ok-scoped-in-Ok-clause-ok : goal.scope-returns-in_ok-scoped-in-Ok-clause-ok
scope-returns-in_ok-scoped-in-Ok-clause-ok t c =
    scope_read c.args.two c.args.bytes.now c.args.end c.args.depth c.args.at _ c.args.rest.now c.in_ok-body.rest.now
    c.in-Ok.rest.now (bare_expr c.in_ok-body.body.tree) (bare_expr c.in-Ok.trap.tree)
    (bare_expr c.in-Ok.after.tree) _ c.in_ok-body.body.extent c.in-Ok.after.extent
    c.in_ok-body.ensures.ok c.in-Ok.ensures.ok c.in_ok-scoped-in-Ok.ensures.value
