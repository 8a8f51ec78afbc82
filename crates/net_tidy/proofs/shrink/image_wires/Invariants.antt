use Rattle.std.proofs.Common.{◌≡◌, map, take}
use Rattle.net_tidy.specs.inner.Images.{image}
use Rattle.net_tidy.proofs.shrink.image_wires.Given as goal

abbrev pub invariant-loop-wire : goal.invariant-loop-wire
invariant-loop-wire l = l.images ≡ map (image l.stands) (take l.wire-index l.wires)
