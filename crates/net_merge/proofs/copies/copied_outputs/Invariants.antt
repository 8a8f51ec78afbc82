use Rattle.std.proofs.Common.{◌≡◌, take}
use Rattle.net_merge.proofs.copies.copied_outputs.Given as goal

abbrev pub invariant-loop-n : goal.invariant-loop-n
invariant-loop-n l = l.to ≡ take l.n l.outputs
