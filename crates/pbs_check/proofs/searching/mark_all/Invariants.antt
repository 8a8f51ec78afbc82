use Rattle.pbs_check.proofs.SearchLemmas.{MarksTo}
use Rattle.pbs_check.proofs.searching.mark_all.Given as goal

abbrev pub invariant-loop-number : goal.invariant-loop-number
invariant-loop-number l = MarksTo l.root l.list l.labels l.label l.number-index l.initial.search l.search
