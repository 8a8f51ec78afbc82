use Rattle.std.proofs.Common.{length, ◌≤◌}
use Rattle.pbs_io.proofs.WrittenLemmas.{WritesUpTo}
use Rattle.pbs_io.proofs.write.write_all.Given as goal

abbrev pub invariant-loop-rest : goal.invariant-loop-rest
invariant-loop-rest g l = record {
  so_far : WritesUpTo ((g.K.Sink.state l.initial.sink).written) ((g.K.Sink.state l.sink).written) l.piece l.rest;
  later : (g.K.Sink.state l.initial.sink).faults ≤ (g.K.Sink.state l.sink).faults;
}

abbrev pub decreases-loop-rest : goal.decreases-loop-rest
decreases-loop-rest g l = length l.rest
