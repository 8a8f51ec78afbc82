use Rattle.std.proofs.Common.{◌≡◌, take, map}
use Rattle.net_merge.specs.inner.Firsts.{gate_read_as}
use Rattle.net_merge.proofs.copies.first_gates.Given as goal

abbrev pub invariant-loop-n : goal.invariant-loop-n
invariant-loop-n l = l.to ≡ map (gate_read_as l.firsts) (take l.n l.gates)
