use Rattle.std.proofs.Common.{◌≡◌, length}
use Rattle.std.specs.List.{list_all}
use Rattle.trace_text.specs.Headers.{is_name}
use Rattle.trace_text.specs.inner.Names.{words_behind}
use Rattle.trace_text.proofs.names.are_names.Given as goal

abbrev pub invariant-loop-behind : goal.invariant-loop-behind
invariant-loop-behind l = list_all is_name (words_behind l.fn.names) ≡ list_all is_name (words_behind l.behind)

abbrev pub decreases-loop-behind : goal.decreases-loop-behind
decreases-loop-behind l = length (words_behind l.behind)
