use Rattle.pbs_read.proofs.TextExits.{word_found}
use Rattle.pbs_read.proofs.spec.next_decl.Goals as goal

pub returns-in-Some-word_of : goal.returns-in-Some-word_of
returns-in-Some-word_of c = word_found _ _ c.in-Some.first c.in-Some-word_of.found c.in-Some.ensures
    c.in-Some-word_of.ensures
