use Rattle.std.proofs.Common.{◌-◌, length}
use Rattle.pbs_check.proofs.SearchLemmas.{SearchTo}
use Rattle.pbs_check.proofs.searching.spread.Given as goal

abbrev pub invariant-loop-next : goal.invariant-loop-next
invariant-loop-next l = SearchTo l.lists l.labels l.label l.root l.fn.marks.items l.next l.search

abbrev pub decreases-loop-next : goal.decreases-loop-next
decreases-loop-next l = length l.labels - l.next
