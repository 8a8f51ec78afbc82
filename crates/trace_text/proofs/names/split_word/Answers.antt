use Rattle.std.proofs.lemmas.List.{take_rest}
use Rattle.trace_text.proofs.NameLemmas.{first_word, one_word}
use Rattle.trace_text.proofs.names.split_word.Goals as goal

pub returns-then-n-text-clause-words : goal.returns-then-n-text-clause-words
returns-then-n-text-clause-words c = one_word _ _ c.front_length-n.ensures c.if-n-text.true

pub returns-clause-words : goal.returns-clause-words
returns-clause-words c = rw take_rest (first_word _ _ c.front_length-n.ensures c.if-n-text.false)
