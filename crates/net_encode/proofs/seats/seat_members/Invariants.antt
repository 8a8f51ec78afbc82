use Rattle.std.proofs.Common.{◌≡◌, length}
use Rattle.net_encode.specs.inner.Seats.{AreSeatsTo}
use Rattle.net_encode.proofs.seats.seat_members.Given as goal

abbrev pub invariant-loop-n : goal.invariant-loop-n
invariant-loop-n l = (length (l.seats).items ≡ length (l.fn.seats).items)
    × AreSeatsTo l.groups l.number l.n (l.seats).items
