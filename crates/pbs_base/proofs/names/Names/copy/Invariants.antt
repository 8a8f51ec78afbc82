use Rattle.std.proofs.Common.{◌≡◌, take}
use Rattle.pbs_base.proofs.names.Names.copy.Given as goal

abbrev pub invariant-loop-n : goal.invariant-loop-n
invariant-loop-n l = l.copy ≡ take l.n l.self
