use Rattle.std.proofs.Common.{arith}
use Rattle.pbs_io.proofs.WrittenLemmas.{one_piece_more}
use Rattle.pbs_io.proofs.write.write_all.Goals as goal

pub loop-rest-preserved : goal.loop-rest-preserved
loop-rest-preserved g c = record {
  so_far = one_piece_more _ _ _ _ c.loop-rest.rest.now c.in-Ok.n c.loop-rest.invariant.so_far
      c.in-Ok.ensures.puts.taken;
  later = omega arith;
}
