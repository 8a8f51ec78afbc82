use Rattle.net_encode.specs.inner.Telling.{AreTelling}
use Rattle.net_encode.proofs.telling.telling_codes.Given as goal

abbrev pub invariant-loop-n : goal.invariant-loop-n
invariant-loop-n l = AreTelling l.plan l.n l.codes
