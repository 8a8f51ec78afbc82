use Rattle.std.proofs.Common.{◌≡◌}
use Rattle.net_encode.specs.inner.Telling.{telling_literals}
use Rattle.net_encode.proofs.telling.seat_literals.Given as goal

abbrev pub invariant-loop-t : goal.invariant-loop-t
invariant-loop-t l = l.literals ≡ telling_literals l.seat.first l.seat.last l.seat.code l.t
