use Rattle.pbs_grammar.proofs.OneAnswer as lemma
use Rattle.pbs_read.proofs.laws.one_answer.Goals as goal

pub returns : goal.returns
returns c bytes a b = lemma.one_answer bytes a b
