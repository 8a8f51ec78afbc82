use Rattle.pbs_descent.proofs.TermExits.{unit_compared, unit_uncompared}
use Rattle.pbs_descent.proofs.terms.comparison.Goals as goal

pub returns-in_default-clause-err : goal.returns-in_default-clause-err
returns-in_default-clause-err c equals_at depth =
    rw c.stop.ensures
    (unit_uncompared c.args.two c.args.end depth c.args.name equals_at c.args.tokens.now c.requires
    c.in_default.ensures)

pub returns-clause-ok : goal.returns-clause-ok
returns-clause-ok c equals_at depth = unit_compared _ _ _ _ c.args.name equals_at c.in-Some.at _ _ _ _ c.requires
    c.in_ok-word.ensures.value c.in-Some.ensures
