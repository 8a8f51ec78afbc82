use Rattle.std.proofs.Common.{◌≡◌, ◌+◌, ◌-◌, ◌*◌, ◌<◌, ◌≤◌, get_or, ◌∙◌, arith}
use Rattle.pbs_lex.proofs.Decimals.{decimal-step, decimal_grows, decimal_below}
use Rattle.pbs_lex.proofs.piece.decimal.Goals as goal

pub overflow_mul-value : goal.overflow_mul-value
overflow_mul-value c =
    let h : c.loop-b.value * 10 + 0 < 1000000000 = decimal_below c.loop-b.value c.loop-b.b-index 0 c.loop-b.invariant.1
    (omega arith) (omega arith) in
    omega arith

pub overflow_add-value : goal.overflow_add-value
overflow_add-value c =
    let digit : c.from.result ≤ 9 = let h = c.requires.ascii c.loop-b.b-index c.loop-b-test.true in omega arith in
    let h : c.loop-b.value * 10 + c.from.result < 1000000000 =
    decimal_below c.loop-b.value c.loop-b.b-index c.from.result c.loop-b.invariant.1 (omega arith) digit in
    omega arith

pub loop-b-preserved : goal.loop-b-preserved
loop-b-preserved c =
    let digit : c.from.result ≤ 9 = let h = c.requires.ascii c.loop-b.b-index c.loop-b-test.true in omega arith in
    let is : c.from.result ≡ get_or c.args.digits.now c.loop-b.b-index 0 - 48 = c.from.ensures
    ∙ c.saturating_sub.ensures in (
      rw is (decimal-step c.loop-b.value c.loop-b.b-index c.args.digits.now c.loop-b-test.true ∙ c.loop-b.invariant.0),
      decimal_grows c.loop-b.value c.loop-b.b-index c.from.result c.loop-b.invariant.1 digit,
    )
