use Rattle.std.proofs.Common.{◌≤◌, drop}
use Rattle.std.specs.List.{concat}
use Rattle.pbs_io.specs.Written.{texts_of}
use Rattle.pbs_io.proofs.WrittenLemmas.{WritesUpTo}
use Rattle.pbs_io.proofs.write.write_pieces.Given as goal

abbrev pub invariant-loop-piece : goal.invariant-loop-piece
invariant-loop-piece g l = record {
  so_far : WritesUpTo ((g.K.Sink.state l.initial.sink).written) ((g.K.Sink.state l.sink).written)
      (concat (texts_of l.pieces)) (concat (texts_of (drop l.piece-index l.pieces)));
  later : (g.K.Sink.state l.initial.sink).faults ≤ (g.K.Sink.state l.sink).faults;
}
