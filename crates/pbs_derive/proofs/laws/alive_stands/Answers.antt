use Rattle.pbs_derive.proofs.Places.{alive_stands}
use Rattle.pbs_derive.proofs.laws.alive_stands.Goals as goal

pub returns : goal.returns
returns c = alive_stands
