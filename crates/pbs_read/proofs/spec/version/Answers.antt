use Rattle.std.proofs.lemmas.Result.{err_from_is_err_and}
use Rattle.pbs_read.proofs.TextExits.{version_read, version_stops, version_unended, no_version_front}
use Rattle.pbs_read.proofs.spec.version.Goals as goal

pub returns-clause-ok : goal.returns-clause-ok
returns-clause-ok c =
    version_read _ _ _ _ _ c.in_ok-after_spec.field-0-0 c.in_ok-rest.field-0-0 c.in-Some.first c.in-Some-is_two.two
    c.in_ok-after_spec.ensures.ok c.in-Some.ensures c.in-Some-is_two.ensures c.in_ok-rest.ensures.ok

pub returns-in_default-clause-err : goal.returns-in_default-clause-err
returns-in_default-clause-err c =
    rw c.stop.ensures
    (version_stops c.args.end c.args.tokens.now c.in_ok-after_spec.after_spec.now c.in_ok-after_spec.field-0-0
    c.in_ok-after_spec.ensures.ok (rw c.in_default.ensures tt))

pub returns-in_default-is_two-clause-err : goal.returns-in_default-is_two-clause-err
returns-in_default-is_two-clause-err c =
    rw c.stop-in_default-is_two.ensures
    (version_stops c.args.end c.args.tokens.now c.in_ok-after_spec.after_spec.now c.in_ok-after_spec.field-0-0
    c.in_ok-after_spec.ensures.ok
    (no_version_front c.in_ok-after_spec.after_spec.now c.in-Some.rest.now c.in-Some.first c.in-Some.ensures
    c.in_default-is_two.ensures))

pub returns-in_err-rest-clause-err : goal.returns-in_err-rest-clause-err
returns-in_err-rest-clause-err c =
    let p = err_from_is_err_and c.from_residual-in_err-rest.result c.from_residual-in_err-rest.ensures.1 in
    rw (p.1, p.2)
    (version_unended c.args.end c.args.tokens.now c.in_ok-after_spec.after_spec.now c.in-Some.rest.now
    c.in_ok-after_spec.field-0-0 c.in-Some.first c.in-Some-is_two.two c.in_err-rest.field-0.0
    c.in_ok-after_spec.ensures.ok c.in-Some.ensures c.in-Some-is_two.ensures c.in_err-rest.ensures.err)
