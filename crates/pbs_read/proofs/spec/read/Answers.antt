use Rattle.std.proofs.Common.{◌≤◌, ◌<◌, length, arith}
use Rattle.std.proofs.lemmas.Result.{err_from_is_err_and}
use Rattle.pbs_text.specs.Answers.{ByLength}
use Rattle.pbs_read.proofs.AnswerLemmas.{found_from, refused_from, refused_token}
use Rattle.pbs_read.proofs.spec.read.Goals as goal

pub returns-then-bytes-gt-MAX_BYTES-clause-refused : goal.returns-then-bytes-gt-MAX_BYTES-clause-refused
returns-then-bytes-gt-MAX_BYTES-clause-refused c =
    let long : 1048576 < length c.args.bytes.now = omega arith in
    rw c.too_long.ensures (ByLength long)

pub returns-in_err-tokens-clause-refused : goal.returns-in_err-tokens-clause-refused
returns-in_err-tokens-clause-refused c =
    let short : length c.args.bytes.now ≤ 1048576 = omega arith in
    let p = err_from_is_err_and c.from_residual.result c.from_residual.ensures.1 in
    rw (p.1, p.2) (refused_token c.args.bytes.now c.in_err-tokens.field-0.0 short c.in_err-tokens.ensures.err)

pub returns-clause-found : goal.returns-clause-found
returns-clause-found c =
    let short : length c.args.bytes.now ≤ 1048576 = omega arith in
    found_from _ _ c.deref.result.now c.end_of.result c.text.result short c.in_ok-tokens.ensures.ok
    c.deref.ensures.value c.end_of.ensures c.text.ensures.ok

pub returns-clause-refused : goal.returns-clause-refused
returns-clause-refused c =
    let short : length c.args.bytes.now ≤ 1048576 = omega arith in
    refused_from _ _ c.deref.result.now c.end_of.result c.text.result short c.in_ok-tokens.ensures.ok
    c.deref.ensures.value c.end_of.ensures c.text.ensures.err
