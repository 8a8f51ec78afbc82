use Rattle.pbs_derive.proofs.EmptyStretch.{covers_empty, alive_empty}
use Rattle.pbs_derive.proofs.Shapes.{well_formed}
use Rattle.pbs_derive.proofs.laws.empty_stretch.Goals as goal

pub returns-clause-covered : goal.returns-clause-covered
returns-clause-covered c = covers_empty

pub returns-clause-is_alive : goal.returns-clause-is_alive
returns-clause-is_alive c = λ e v i right. alive_empty e v i (well_formed e right)
