use Rattle.std.proofs.Common.{◌==◌, vec_len}
use Rattle.std.specs.HashMap.{get}
use Rattle.std.specs.Cmp.Lexicographic.{pointwise}
use Rattle.pbs_names.proofs.NameLemmas.{IsNumberedTo}
use Rattle.pbs_names.proofs.index.Numbers.new.Given as goal

abbrev pub invariant-loop-word : goal.invariant-loop-word
invariant-loop-word l = IsNumberedTo l.fn.words.items l.words.items (λ name. get (pointwise ◌==◌) l.firsts name)

abbrev pub decreases-loop-word : goal.decreases-loop-word
decreases-loop-word l = vec_len l.words
