use Rattle.pbs_descent.proofs.Descends.{numeral_found}
use Rattle.pbs_descent.proofs.common.numeral.Goals as goal

pub returns-in-Some-number_of : goal.returns-in-Some-number_of
returns-in-Some-number_of c = numeral_found _ _ c.in-Some.first _ c.in-Some.ensures c.in-Some-number_of.ensures
