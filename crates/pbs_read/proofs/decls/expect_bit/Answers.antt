use Rattle.pbs_read.proofs.DeclExits.{bit_found}
use Rattle.pbs_read.proofs.decls.expect_bit.Goals as goal

pub returns-in-Some-bit_value-clause-ok : goal.returns-in-Some-bit_value-clause-ok
returns-in-Some-bit_value-clause-ok c = bit_found _ _ c.in-Some.first _ c.in-Some.ensures c.in-Some-bit_value.ensures
