use Rattle.std.proofs.Common.{◌∙◌, sym, arith}
use Rattle.pbs_cli.proofs.NumberLemmas.{number_absent, number_found, number_passed}
use Rattle.pbs_cli.proofs.command.number.Goals as goal

pub returns-then-is_number-clause-number : goal.returns-then-is_number-clause-number
returns-then-is_number-clause-number c =
    number_found 1000 c.loop-n.n c.args.digits.now c.loop-n.invariant.0 (let some = c.loop-n-test.true in omega arith)
    (sym c.is_number.ensures ∙ c.if-is_number.true)

pub loop-n-preserved : goal.loop-n-preserved
loop-n-preserved c = (
  number_passed 1000 c.loop-n.n c.args.digits.now c.loop-n.invariant.0 (let some = c.loop-n-test.true in omega arith)
      (sym c.is_number.ensures ∙ c.if-is_number.false),
  (let few = c.loop-n.invariant.1 in omega arith),
)

pub returns-clause-number : goal.returns-clause-number
returns-clause-number c =
    number_absent 1000 c.loop-n.n c.args.digits.now c.loop-n.invariant.0
    (let none = c.loop-n-test.false in omega arith)
