use Rattle.pbs_io.proofs.CabinetLemmas.{found, missing}
use Rattle.pbs_io.proofs.cabinet.Cabinet.find.Goals as goal

pub returns-clause-there : goal.returns-clause-there
returns-clause-there c = rw c.index_of.ensures.value (found c.args.self.now.files.items c.args.name.now)

pub returns-clause-absent : goal.returns-clause-absent
returns-clause-absent c = rw c.index_of.ensures.value (missing c.args.self.now.files.items c.args.name.now)
