use Rattle.std.proofs.Common.{◌<◌, ◌≤◌, length, arith, refl}
use Rattle.std.proofs.lemmas.Result.{err_from_is_err_and}
use Rattle.vlog_parse.specs.Parsed.{ByLength}
use Rattle.vlog_read.proofs.Answering.{stopped_lexing, answered}
use Rattle.vlog_read.proofs.parse.parse_netlist.Goals as goal

pub returns-then-bytes-gt-MAX_BYTES : goal.returns-then-bytes-gt-MAX_BYTES
returns-then-bytes-gt-MAX_BYTES c =
    let long : 67108864 < length c.args.bytes.now = omega arith in
    rw c.too_long.ensures (ByLength long)

pub returns-in_err-tokens : goal.returns-in_err-tokens
returns-in_err-tokens c =
    let short : length c.args.bytes.now ≤ 67108864 = omega arith in
    let p = err_from_is_err_and c.from_residual.result c.from_residual.ensures.1 in
    rw (p.1, p.2) (stopped_lexing c.args.bytes.now c.in_err-tokens.field-0.0 short c.in_err-tokens.ensures.err)

pub returns : goal.returns
returns c =
    let short : length c.args.bytes.now ≤ 67108864 = omega arith in
    answered c.args.bytes.now c.in_ok-tokens.tokens.items c.deref.result.now _ c.read_tokens.result
    (c.read_is_raw.ensures c.args.bytes.now) short c.in_ok-tokens.ensures.ok c.deref.ensures.value refl
    c.read_tokens.ensures.ok c.read_tokens.ensures.err
