use Rattle.std.proofs.lemmas.Result.{err_from_is_err_and}
use Rattle.pbs_ast.specs.Bare.{bare_expr}
use Rattle.pbs_read.proofs.DeclExits.{right_side_read, right_side_no_equals, right_side_stops, right_side_unended}
use Rattle.pbs_read.proofs.decls.right_side.Goals as goal

pub returns-in_err-rest-clause-err : goal.returns-in_err-rest-clause-err
returns-in_err-rest-clause-err c =
    let p = err_from_is_err_and c.from_residual.result c.from_residual.ensures.1 in
    rw (p.1, p.2)
    (right_side_no_equals c.args.two c.args.end c.args.tokens.now c.in_err-rest.field-0.0 c.in_err-rest.ensures.err)

pub returns-in_err-body-clause-err : goal.returns-in_err-body-clause-err
returns-in_err-body-clause-err c =
    let p = err_from_is_err_and c.from_residual-in_err-body.result c.from_residual-in_err-body.ensures.1 in
    rw (p.1, p.2)
    (right_side_stops c.args.two c.args.end c.args.tokens.now c.in_ok-rest.rest.now c.in_ok-rest.field-0-0
    c.in_err-body.field-0.0 c.in_ok-rest.ensures.ok c.in_err-body.ensures.err)

pub returns-in_err-rest-2-clause-err : goal.returns-in_err-rest-2-clause-err
returns-in_err-rest-2-clause-err c =
    let p = err_from_is_err_and c.from_residual-in_err-rest-2.result c.from_residual-in_err-rest-2.ensures.1 in
    rw (p.1, p.2)
    (right_side_unended c.args.two c.args.bytes.now c.args.end c.args.tokens.now c.in_ok-rest.rest.now
    c.in_ok-body.rest.now c.in_ok-rest.field-0-0 (bare_expr c.in_ok-body.body.tree) c.in_ok-body.body.extent
    c.in_err-rest-2.field-0.0 c.in_ok-rest.ensures.ok c.in_ok-body.ensures.ok c.in_ok-body.ensures.no_comma
    c.in_ok-body.ensures.no_bar c.in_err-rest-2.ensures.err)

pub returns-clause-ok : goal.returns-clause-ok
returns-clause-ok c =
    right_side_read _ _ _ _ _ _ _ c.in_ok-rest.field-0-0 c.in_ok-rest-2.field-0-0
    (bare_expr c.in_ok-body.body.tree) c.in_ok-body.body.extent
    c.in_ok-rest.ensures.ok c.in_ok-body.ensures.ok c.in_ok-rest-2.ensures.ok
