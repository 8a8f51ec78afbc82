use Rattle.pbs_descent.proofs.ExprExits.{action_read}
use Rattle.pbs_descent.proofs.exprs.action.Goals as goal

pub returns-clause-ok : goal.returns-clause-ok
returns-clause-ok c =
    action_read _ _ _ _ c.args.at c.in_ok-name.name c.in_ok-close.close _ _ _ _ _ c.in_ok-name.ensures.ok
    c.in_ok-close.ensures.ok c.joined-extent.ensures c.in_ok-word.ensures.value
