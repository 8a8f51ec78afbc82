use Rattle.pbs_realize.proofs.OneCoding.{one_coding}
use Rattle.pbs_realize.proofs.laws.one_coding.Goals as goal

pub returns : goal.returns
returns c = one_coding c.one_code_plan.ensures
