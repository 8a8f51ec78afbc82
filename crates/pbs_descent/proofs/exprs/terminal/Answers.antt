use Rattle.pbs_descent.proofs.ExprExits.{terminal_read}
use Rattle.pbs_descent.proofs.exprs.terminal.Goals as goal

pub returns-clause-ok : goal.returns-clause-ok
returns-clause-ok c = terminal_read _ _ _ _ c.args.at c.in-Some.close _ _ _ _ _ c.in-Some.ensures
    c.joined-extent.ensures c.in_ok-inner.ensures.ok
