use Rattle.std.proofs.Common.{length}
use Rattle.trace_text.specs.inner.Names.{words_behind}
use Rattle.trace_text.proofs.NameLemmas.{NamesTo}
use Rattle.trace_text.proofs.names.read_names.Given as goal

abbrev pub invariant-loop-behind : goal.invariant-loop-behind
invariant-loop-behind l = NamesTo l.ports (words_behind l.fn.names) l.order.items l.at l.behind

abbrev pub decreases-loop-behind : goal.decreases-loop-behind
decreases-loop-behind l = length (words_behind l.behind)
