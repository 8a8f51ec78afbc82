use Rattle.pbs_read.proofs.DeclExits.{names_first, names_more}
use Rattle.pbs_read.proofs.decls.names.Goals as goal

pub loop-after-init : goal.loop-after-init
loop-after-init c = names_first _ _ _ _ _ _ _ c.in_ok-at.at c.in_ok-at.ensures.ok c.in_ok-action_of.ensures.value
    c.in_ok-push.ensures.ok

pub loop-after-preserved : goal.loop-after-preserved
loop-after-preserved c =
    names_more _ _ _ _ _ _ _ _ _ c.in-Some.field-0-0 c.in_ok-at-2.at _ c.in-Some.ensures c.in_ok-at-2.ensures.ok
    c.in_ok-action_of-2.ensures.value c.in_ok-push-2.ensures.ok c.loop-after.invariant
