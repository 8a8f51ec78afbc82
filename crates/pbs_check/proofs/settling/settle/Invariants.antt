use Rattle.pbs_check.specs.inner.Facts.{known_of}
use Rattle.pbs_check.specs.inner.Truth.{Settles, unknown_count}
use Rattle.pbs_check.proofs.settling.settle.Given as goal

abbrev pub invariant-loop-known : goal.invariant-loop-known
invariant-loop-known l = Settles l.prods (known_of l.known)

abbrev pub decreases-loop-known : goal.decreases-loop-known
decreases-loop-known l = unknown_count l.prods (known_of l.known)
