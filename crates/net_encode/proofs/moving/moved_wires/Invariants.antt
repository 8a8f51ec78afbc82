use Rattle.std.proofs.Common.{◌≡◌, take, map}
use Rattle.net_encode.specs.inner.Moves.{moved}
use Rattle.net_encode.proofs.moving.moved_wires.Given as goal

abbrev pub invariant-loop-n : goal.invariant-loop-n
invariant-loop-n l = l.to ≡ map (moved l.table l.offset) (take l.n l.wires)
