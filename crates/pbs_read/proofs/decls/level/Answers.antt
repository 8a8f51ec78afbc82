use Rattle.pbs_read.proofs.DeclExits.{level_read}
use Rattle.pbs_read.proofs.decls.level.Goals as goal

pub returns-clause-ok : goal.returns-clause-ok
returns-clause-ok c =
    level_read _ _ _ _ _ _ c.in_ok-span.span c.in_ok-rest.field-0-0 c.in_ok-name.name c.in_ok-span.start
    c.in_ok-sets.sets c.in_ok-span.ensures.ok c.in_ok-sets.ensures.ok c.in_ok-rest.ensures.ok
    c.in_ok-name.ensures.value
