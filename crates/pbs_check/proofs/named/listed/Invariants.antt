use Rattle.std.proofs.Common.{◌≡◌, ◌++◌, drop}
use Rattle.pbs_check.specs.Declaring.{listed}
use Rattle.pbs_check.proofs.named.listed.Given as goal

abbrev pub invariant-loop-set : goal.invariant-loop-set
invariant-loop-set l = l.names.items ++ listed (drop l.set-index l.set-items) ≡ listed l.sets
