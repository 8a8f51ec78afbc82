use Rattle.std.proofs.Common.{◌≡◌, take}
use Rattle.pbs_base.proofs.names.Names.from_words.Given as goal

abbrev pub invariant-loop-word : goal.invariant-loop-word
invariant-loop-word l = l.names ≡ take l.word-index l.words
