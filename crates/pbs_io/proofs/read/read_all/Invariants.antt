use Rattle.std.proofs.Common.{◌≡◌, ◌≤◌, ◌+◌, ◌-◌, vec_len}
use Rattle.pbs_io.proofs.ReadLemmas.{HasRead}
use Rattle.pbs_io.proofs.read.read_all.Given as goal

abbrev pub invariant-loop-out : goal.invariant-loop-out
invariant-loop-out g l = record {
  so_far : HasRead (g.S.Shelf.state l.initial.shelf) (g.S.Shelf.state l.shelf) l.slot l.out.items;
  short : vec_len l.out ≤ l.limit + 1;
  piece : vec_len l.piece ≡ 65536;
}

abbrev pub decreases-loop-out : goal.decreases-loop-out
decreases-loop-out g l = l.limit + 1 - vec_len l.out
