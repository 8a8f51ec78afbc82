use Rattle.pbs_codes.proofs.Only.{same_plan}
use Rattle.pbs_codes.proofs.laws.one_code_plan.Goals as goal

pub returns : goal.returns
returns c = λ main plan other right also. same_plan main plan other right also
