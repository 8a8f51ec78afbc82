use Rattle.trace_text.specs.HeldBytes.{held_bytes}
use Rattle.trace_text.specs.Reports.{is_on}
use Rattle.trace_text.proofs.ReportLemmas.{RowHeld}
use Rattle.trace_text.proofs.row.hold_row.Given as goal

abbrev pub invariant-loop-n : goal.invariant-loop-n
invariant-loop-n g l = RowHeld (g.K.Sink.state l.fn.sink) (g.K.Sink.state l.sink) l.names l.row (is_on l.on) l.any l.n
    (held_bytes l.fn.held) (held_bytes l.held)
