use Rattle.std.proofs.Common.{◌≡◌, take, map}
use Rattle.net_encode.specs.inner.Moves.{gate_moved, with_gates}
use Rattle.net_encode.proofs.moving.copy_gates.Given as goal

abbrev pub invariant-loop-n : goal.invariant-loop-n
invariant-loop-n l = l.draft ≡ with_gates l.fn.draft (map (gate_moved l.table l.offset) (take l.n l.gates))
