use Rattle.std.proofs.Common.{◌≡◌, length}
use Rattle.net_merge.specs.inner.Firsts.{AreFirstsOf, AreTakers}
use Rattle.net_merge.proofs.firsts.find_firsts.Given as goal

abbrev pub invariant-loop-r : goal.invariant-loop-r
invariant-loop-r l = (length (l.takers).items ≡ l.gates) × AreTakers l.registers l.r (l.takers).items
    × AreFirstsOf l.registers l.r (l.firsts).items
