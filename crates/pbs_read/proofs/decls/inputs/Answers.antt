use Rattle.pbs_read.proofs.DeclExits.{inputs_first, inputs_more}
use Rattle.pbs_read.proofs.decls.inputs.Goals as goal

pub loop-after-init : goal.loop-after-init
loop-after-init c = inputs_first _ _ _ _ _ _ _ c.in_ok-first.first c.in_ok-push.ensures.ok c.in_ok-first.ensures.ok

pub loop-after-preserved : goal.loop-after-preserved
loop-after-preserved c =
    inputs_more _ _ _ _ _ _ _ _ _ _ c.in-Some.field-0-0 c.in_ok-next.next c.in-Some.ensures c.in_ok-push-2.ensures.ok
    c.loop-after.invariant c.in_ok-next.ensures.ok
