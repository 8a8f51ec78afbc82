use Rattle.std.proofs.lemmas.Result.{err_from_is_err_and}
use Rattle.pbs_read.specs.inner.TextDescent.{bare_lists}
use Rattle.pbs_read.proofs.TextExits.{decls_more, decls_stop}
use Rattle.pbs_read.proofs.spec.decls.Goals as goal

pub returns-in_err-rest-clause-err : goal.returns-in_err-rest-clause-err
returns-in_err-rest-clause-err c =
    let p = err_from_is_err_and c.from_residual.result c.from_residual.ensures.1 in
    rw (p.1, p.2)
    (decls_stop c.args.two c.args.bytes.now c.args.end c.args.tokens.now c.loop-found.rest.now c.in-Some.after.now
    (bare_lists c.loop-found.lists) c.in-Some.found c.in_err-rest.field-0.0
    c.in-Some.ensures c.loop-found.invariant c.in_err-rest.ensures.err)

pub loop-found-preserved : goal.loop-found-preserved
loop-found-preserved c =
    decls_more _ _ _ _ _ _ _ (bare_lists c.loop-found.lists) (bare_lists c.decl.new.lists) c.in-Some.found
    c.in-Some.ensures c.loop-found.invariant c.in_ok-rest.ensures.ok
