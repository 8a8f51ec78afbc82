use Rattle.std.proofs.Common.{◌≡◌, take, map}
use Rattle.net_encode.specs.inner.Moves.{output_moved}
use Rattle.net_encode.proofs.moving.moved_outputs.Given as goal

abbrev pub invariant-loop-n : goal.invariant-loop-n
invariant-loop-n l = l.to ≡ map (output_moved l.offset) (take l.n l.outputs)
