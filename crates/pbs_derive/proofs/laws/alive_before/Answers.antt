use Rattle.pbs_derive.proofs.Stretches.{lasts}
use Rattle.pbs_derive.proofs.laws.alive_before.Goals as goal

pub returns : goal.returns
returns c = λ e v. (lasts e v).1
