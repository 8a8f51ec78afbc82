use Rattle.std.proofs.Common.{◌≡◌, length, take}
use Rattle.net_encode.specs.Codes.{code_registers}
use Rattle.net_encode.specs.inner.Seats.{AreSeatsTo}
use Rattle.net_encode.proofs.seats.find_seats.Given as goal

abbrev pub invariant-loop-n : goal.invariant-loop-n
invariant-loop-n l = (l.first ≡ code_registers (take l.n l.groups)) × (length (l.seats).items ≡ l.places)
    × AreSeatsTo l.groups l.n 0 (l.seats).items
