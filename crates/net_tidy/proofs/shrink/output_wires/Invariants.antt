use Rattle.std.proofs.Common.{◌≡◌, take}
use Rattle.net_tidy.specs.inner.Shrunk.{output_wires}
use Rattle.net_tidy.proofs.shrink.output_wires.Given as goal

abbrev pub invariant-loop-output : goal.invariant-loop-output
invariant-loop-output l = l.wires ≡ output_wires (take l.output-index l.outputs)
