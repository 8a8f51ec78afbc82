use Rattle.pbs_base.proofs.WordLemmas.{found_at, absent_from}
use Rattle.pbs_base.proofs.names.Names.find.Goals as goal

pub returns-clause-found : goal.returns-clause-found
returns-clause-found c = rw (← c.self.view_is) (found_at c.args.word.now c.self.inside.held.keys c.get_index_of.result
    c.get_index_of.ensures.index)

pub returns-clause-absent : goal.returns-clause-absent
returns-clause-absent c = rw (← c.self.view_is) (absent_from c.args.word.now c.self.inside.held.keys
    c.get_index_of.result c.get_index_of.ensures.found)
