use Rattle.pbs_read.proofs.DeclExits.{input_read}
use Rattle.pbs_read.proofs.decls.input.Goals as goal

pub returns-clause-ok : goal.returns-clause-ok
returns-clause-ok c = input_read _ _ _ _ _ _ c.in_ok-span.span c.in_ok-name.name c.in_ok-width.width
    c.in_ok-span.ensures.ok c.in_ok-name.ensures.value c.in_ok-width.ensures.ok
