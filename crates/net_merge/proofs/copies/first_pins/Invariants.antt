use Rattle.std.proofs.Common.{◌≡◌, take, map}
use Rattle.net_merge.specs.inner.Firsts.{read_as}
use Rattle.net_merge.proofs.copies.first_pins.Given as goal

abbrev pub invariant-loop-n : goal.invariant-loop-n
invariant-loop-n l = l.to ≡ map (read_as l.firsts) (take l.n l.pins)
