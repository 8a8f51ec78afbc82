use Rattle.std.proofs.lemmas.Result.{err_from_is_err_and}
use Rattle.pbs_ast.specs.Bare.{bare_expr}
use Rattle.pbs_read.proofs.DeclExits.{prod_read, prod_stops}
use Rattle.pbs_read.proofs.decls.prod.Goals as goal

pub returns-in_err-body-clause-err : goal.returns-in_err-body-clause-err
returns-in_err-body-clause-err c =
    let p = err_from_is_err_and c.from_residual-in_err-body.result c.from_residual-in_err-body.ensures.1 in
    rw (p.1, p.2)
    (prod_stops c.args.two c.args.end c.args.tokens.now c.in_ok-span.rest.now c.in_ok-span.span
    c.in_err-body.field-0.0 c.in_ok-span.ensures.ok c.in_err-body.ensures.err)

pub returns-clause-ok : goal.returns-clause-ok
returns-clause-ok c =
    prod_read _ _ _ _ _ _ c.in_ok-span.span c.in_ok-name.name (bare_expr c.in_ok-body.body) c.in_ok-span.ensures.ok
    c.in_ok-body.ensures.ok c.in_ok-name.ensures.value
