use Rattle.std.proofs.Common.{◌≡◌, ◌<◌, length, arith}
use Rattle.std.proofs.lemmas.Bool.Decides.{nat_tests}
use Rattle.std.proofs.lemmas.Result.{err_from_is_err_and}
use Rattle.pbs_ast.specs.Bare.{bare_expr}
use Rattle.pbs_read.proofs.TextExits.{main_read, main_stops, main_more}
use Rattle.pbs_read.proofs.spec.main_expr.Goals as goal

pub returns-in_err-body-clause-err : goal.returns-in_err-body-clause-err
returns-in_err-body-clause-err c =
    let p = err_from_is_err_and c.from_residual-in_err-body.result c.from_residual-in_err-body.ensures.1 in
    rw (p.1, p.2)
    (main_stops c.args.two c.args.end c.args.tokens.now c.in_ok-rest.rest.now c.in_ok-rest.field-0-0
    c.in_err-body.field-0.0 c.in_ok-rest.ensures.ok c.in_err-body.ensures.err)

pub returns-then-is_empty-clause-ok : goal.returns-then-is_empty-clause-ok
returns-then-is_empty-clause-ok c =
    let none : length c.in_ok-body.rest.now ≡ 0 = grind (arith, nat_tests) in
    main_read _ _ _ _ _ _ c.in_ok-rest.field-0-0 (bare_expr c.in_ok-body.body) c.in_ok-rest.ensures.ok
    c.in_ok-body.ensures.ok none

pub returns-else-is_empty-clause-err : goal.returns-else-is_empty-clause-err
returns-else-is_empty-clause-err c =
    let some : 0 < length c.in_ok-body.rest.now = grind (arith, nat_tests) in
    rw c.stop.ensures
    (main_more c.args.two c.args.bytes.now c.args.end c.args.tokens.now c.in_ok-rest.rest.now c.in_ok-body.rest.now
    c.in_ok-rest.field-0-0 (bare_expr c.in_ok-body.body) c.in_ok-rest.ensures.ok c.in_ok-body.ensures.ok some)
