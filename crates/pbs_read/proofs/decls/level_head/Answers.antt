use Rattle.pbs_read.proofs.DeclExits.{level_head_read}
use Rattle.pbs_read.proofs.decls.level_head.Goals as goal

pub returns-clause-ok : goal.returns-clause-ok
returns-clause-ok c =
    level_head_read _ _ _ _ _ _ c.in_ok-name.name c.in_ok-rest.field-0-0 c.in_ok-rest-2.field-0-0 c.in_ok-value.value
    c.in_ok-name.ensures.ok c.in_ok-rest.ensures.ok c.in_ok-value.ensures.ok c.in_ok-rest-2.ensures.ok
