use Rattle.pbs_base.proofs.WordLemmas.{are_different}
use Rattle.pbs_base.proofs.names.Names.len.Goals as goal

pub returns-clause-different : goal.returns-clause-different
returns-clause-different c = rw (← c.self.view_is) (are_different c.self.inside.held.keys c.len.ensures.unique)
