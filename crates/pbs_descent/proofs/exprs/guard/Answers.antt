use Rattle.pbs_descent.proofs.ExprExits.{guard_read}
use Rattle.pbs_descent.proofs.exprs.guard.Goals as goal

pub returns-clause-ok : goal.returns-clause-ok
returns-clause-ok c =
    guard_read _ _ _ _ c.in_ok-rest.field-0-0 c.in-Some.field-0-0 c.in-Some-behind.field-0-0 _ _ _ _ _ _
    c.in_ok-rest.ensures.ok c.in_ok-inner.ensures.ok c.in-Some.ensures c.in-Some-behind.ensures
