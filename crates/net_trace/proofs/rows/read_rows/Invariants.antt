use Rattle.std.proofs.Common.{◌≡◌, ◌<◌, ◌≤◌, ◌-◌, ℕ, List, length, Option}
use Rattle.pbs_io.specs.Outside.{SinkState}
use Rattle.net_core.specs.Circuits.{Circuit}
use Rattle.trace_text.specs.declared.answers.Phase.TheVariants as phase
use Rattle.net_trace.specs.inner.Steps.{OnlyReads, Standing}
use Rattle.net_trace.proofs.rows.read_rows.Given as goal

abbrev pub invariant-loop-fail : goal.invariant-loop-fail
invariant-loop-fail g l = record {
  phase : l.reader.phase ≡ phase.Rows;
  count : l.report.rows ≤ l.reader.used;
  buffer : 0 < length l.buffer;
  reads : OnlyReads (g.S.Shelf.state l.fn.shelf) (g.S.Shelf.state l.shelf);
  stands : (net : Circuit) (before : SinkState) (first : Option (List ℕ))
      → Standing net before first ((g.S.Shelf.state l.fn.shelf).slots 1).left l.fn.reader l.fn.report
      (g.K.Sink.state l.fn.sink)
      → Standing net before first ((g.S.Shelf.state l.shelf).slots 1).left l.reader l.report
      (g.K.Sink.state l.sink);
}

abbrev pub decreases-loop-fail : goal.decreases-loop-fail
decreases-loop-fail g l = 67108865 - l.reader.used
