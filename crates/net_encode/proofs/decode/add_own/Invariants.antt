use Rattle.std.proofs.Common.{◌≡◌, ◌++◌}
use Rattle.net_encode.specs.inner.Drafts.{own_wires}
use Rattle.net_encode.proofs.decode.add_own.Given as goal

abbrev pub invariant-loop-n : goal.invariant-loop-n
invariant-loop-n l = l.wires ≡ l.fn.wires ++ own_wires l.from l.n
