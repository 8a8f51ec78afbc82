use Rattle.pbs_read.proofs.DeclExits.{sets_more}
use Rattle.pbs_read.proofs.decls.sets.Goals as goal

pub loop-span-preserved : goal.loop-span-preserved
loop-span-preserved c =
    sets_more _ _ _ _ _ _ _ _ c.in-Some.span c.in_ok-action.action c.in_ok-value.value c.in-Some.ensures
    c.in_ok-action.ensures.value c.in_ok-push.ensures.ok c.loop-span.invariant c.in_ok-value.ensures.ok
