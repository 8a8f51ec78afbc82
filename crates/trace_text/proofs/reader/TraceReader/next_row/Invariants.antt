use Rattle.trace_text.proofs.PieceLemmas.{Passed}
use Rattle.trace_text.proofs.reader.TraceReader.next_row.Given as goal

abbrev pub invariant-loop-n : goal.invariant-loop-n
invariant-loop-n l = Passed l.fn.self l.self l.piece l.n
