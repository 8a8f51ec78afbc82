use Rattle.std.proofs.Common.{◌≡◌, ◌≤◌, ◌+◌, ◌-◌, ℕ, List, ◌++◌, length, drop}
use Rattle.pbs_io.specs.Outside.{SinkState}
use Rattle.pbs_base.specs.declared.entry.Entry.{Entry}
use Rattle.net_core.specs.Circuits.{Circuit}
use Rattle.trace_text.specs.declared.answers.Phase.TheVariants as phase
use Rattle.net_trace.specs.inner.Steps.{Read, Shown}
use Rattle.net_trace.proofs.PieceLemmas.{PieceSoFar}
use Rattle.net_trace.proofs.rows.write_piece.Given as goal

abbrev pub invariant-loop-at : goal.invariant-loop-at
invariant-loop-at g l = record {
  phase : l.reader.phase ≡ phase.Rows;
  count : l.report.rows ≤ l.reader.used;
  used : l.reader.used ≡ l.fn.reader.used + l.at;
  within : l.at ≤ length l.piece;
  so_far : (net : Circuit) (before : SinkState) (done : List ℕ) (entries : List Entry)
      → Read net.inputs l.fn.reader done l.piece entries
      → Shown net before entries l.fn.report (g.K.Sink.state l.fn.sink)
      → PieceSoFar net before (done ++ l.piece) (drop l.at l.piece) l.reader l.report (g.K.Sink.state l.sink);
}

abbrev pub decreases-loop-at : goal.decreases-loop-at
decreases-loop-at g l = length l.piece - l.at
