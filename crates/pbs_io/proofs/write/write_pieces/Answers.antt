use Rattle.std.proofs.Common.{arith, subst}
use Rattle.pbs_io.proofs.WrittenLemmas.{WritesUpTo, piece_written, pieces_cut, pieces_from}
use Rattle.pbs_io.proofs.write.write_pieces.Goals as goal

pub returns-in_default : goal.returns-in_default
returns-in_default g c =
    pieces_cut _ _ _ _ _ _ _ _ (subst (WritesUpTo _ _ _)
    (pieces_from c.args.pieces.now c.loop-piece.piece-index _ c.loop-piece-test.true)
    c.loop-piece.invariant.so_far) c.loop-piece.invariant.later c.in_default.ensures

pub loop-piece-preserved : goal.loop-piece-preserved
loop-piece-preserved g c = record {
  so_far = piece_written _ _ _ _ _ _ (subst (WritesUpTo _ _ _)
      (pieces_from c.args.pieces.now c.loop-piece.piece-index _ c.loop-piece-test.true) c.loop-piece.invariant.so_far)
      c.in-Ok.ensures.whole;
  later = omega arith;
}
