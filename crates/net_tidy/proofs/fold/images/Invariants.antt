use Rattle.std.proofs.Common.{◌≡◌, map, take}
use Rattle.net_tidy.specs.inner.Images.{image}
use Rattle.net_tidy.proofs.fold.images.Given as goal

abbrev pub invariant-loop-pin : goal.invariant-loop-pin
invariant-loop-pin l = l.images ≡ map (image l.stands) (take l.pin-index l.pins)
