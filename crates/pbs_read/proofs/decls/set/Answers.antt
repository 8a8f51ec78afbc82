use Rattle.pbs_read.proofs.DeclExits.{set_read}
use Rattle.pbs_read.proofs.decls.set.Goals as goal

pub returns-clause-ok : goal.returns-clause-ok
returns-clause-ok c = set_read _ _ _ _ _ c.in_ok-rest.field-0-0 c.in_ok-rest-2.field-0-0 c.in_ok-value.value
    c.in_ok-rest.ensures.ok c.in_ok-value.ensures.ok c.in_ok-rest-2.ensures.ok
