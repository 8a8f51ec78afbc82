use Rattle.pbs_check.specs.inner.Facts.{known_of}
use Rattle.pbs_check.specs.inner.Truth.{Settles}
use Rattle.pbs_check.proofs.settling.learn_in_order.Given as goal

abbrev pub invariant-loop-number : goal.invariant-loop-number
invariant-loop-number l = Settles l.prods (known_of l.known)
