use Rattle.std.proofs.Common.{◌==◌, vec_len}
use Rattle.std.specs.HashMap.{get}
use Rattle.std.specs.Cmp.Lexicographic.{pointwise}
use Rattle.pbs_check.proofs.TwiceLemmas.{IsTwiceTo}
use Rattle.pbs_check.proofs.named.first_twice.Given as goal

abbrev pub invariant-loop-named : goal.invariant-loop-named
invariant-loop-named l = IsTwiceTo l.fn.names.items l.names.items (λ name. get (pointwise ◌==◌) l.firsts name) l.found

abbrev pub decreases-loop-named : goal.decreases-loop-named
decreases-loop-named l = vec_len l.names
