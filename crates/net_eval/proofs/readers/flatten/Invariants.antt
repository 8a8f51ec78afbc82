use Rattle.net_eval.specs.inner.Chains.{IsList}
use Rattle.net_eval.specs.inner.Flat.{AreFlat}
use Rattle.net_eval.proofs.readers.flatten.Given as goal

abbrev pub invariant-loop-k : goal.invariant-loop-k
invariant-loop-k l = AreFlat (IsList l.chains) l.k l.starts.items l.gates.items
