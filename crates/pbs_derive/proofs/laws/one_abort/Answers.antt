use Rattle.pbs_derive.proofs.Places.{one_abort, abort_found, abort_first}
use Rattle.pbs_derive.proofs.laws.one_abort.Goals as goal

pub returns-clause-unique : goal.returns-clause-unique
returns-clause-unique c = one_abort

pub returns-clause-found : goal.returns-clause-found
returns-clause-found c = abort_found

pub returns-clause-then : goal.returns-clause-then
returns-clause-then c = abort_first
