use Rattle.pbs_engine.proofs.MapLemmas.{one_map}
use Rattle.pbs_engine.proofs.laws.one_map.Goals as goal

pub returns : goal.returns
returns c = one_map c.one_check.ensures.spec c.one_coding.ensures
