use Rattle.std.proofs.lemmas.Result.{err_from_is_err_and}
use Rattle.pbs_descent.proofs.ExprExits.{bounds_read, bounds_no_least, bounds_no_comma, bounds_no_most}
use Rattle.pbs_descent.proofs.ExprExits.{bounds_no_close}
use Rattle.pbs_descent.proofs.exprs.bounds.Goals as goal

pub returns-in_default-clause-err : goal.returns-in_default-clause-err
returns-in_default-clause-err c =
    rw c.stop.ensures (bounds_no_least c.args.end c.args.tokens.now c.in_default.ensures)

pub returns-in_err-rest-clause-err : goal.returns-in_err-rest-clause-err
returns-in_err-rest-clause-err c =
    let p = err_from_is_err_and c.from_residual.result c.from_residual.ensures.1 in
    rw (p.1, p.2, c.in_err-rest.ensures.err.0)
    (bounds_no_comma c.args.end c.args.tokens.now c.in-Some.rest.now c.in-Some.least c.in-Some.field-0-1
    c.in-Some.ensures c.in_err-rest.ensures.err.1)

pub returns-in_default-numeral-clause-err : goal.returns-in_default-numeral-clause-err
returns-in_default-numeral-clause-err c =
    rw c.stop-in_default-numeral.ensures
    (bounds_no_most c.args.end c.args.tokens.now c.in-Some.rest.now c.in_ok-rest.rest.now c.in-Some.least
    c.in-Some.field-0-1 c.in_ok-rest.field-0-0 c.in-Some.ensures c.in_ok-rest.ensures.ok c.in_default-numeral.ensures)

pub returns-in_err-close-clause-err : goal.returns-in_err-close-clause-err
returns-in_err-close-clause-err c =
    let p = err_from_is_err_and c.from_residual-in_err-close.result c.from_residual-in_err-close.ensures.1 in
    rw (p.1, p.2, c.in_err-close.ensures.err.0)
    (bounds_no_close c.args.end c.args.tokens.now c.in-Some.rest.now c.in_ok-rest.rest.now
    c.in-Some-numeral.rest.now c.in-Some.least c.in-Some-numeral.most c.in-Some.field-0-1 c.in_ok-rest.field-0-0
    c.in-Some-numeral.field-0-1 c.in-Some.ensures c.in_ok-rest.ensures.ok c.in-Some-numeral.ensures
    c.in_err-close.ensures.err.1)

pub returns-clause-ok : goal.returns-clause-ok
returns-clause-ok c =
    bounds_read _ _ _ _ _ _ _ _ c.in-Some.field-0-1 c.in_ok-rest.field-0-0 c.in-Some-numeral.field-0-1
    c.in_ok-close.close c.in-Some.ensures c.in_ok-rest.ensures.ok c.in-Some-numeral.ensures c.in_ok-close.ensures.ok
