use Rattle.std.proofs.Common.{length}
use Rattle.pbs_read.specs.inner.DeclDescent.{ReadsSets}
use Rattle.pbs_read.proofs.decls.sets.Given as goal

abbrev pub invariant-loop-span : goal.invariant-loop-span
invariant-loop-span l = ReadsSets l.bytes l.end l.tokens l.found l.rest

abbrev pub decreases-loop-span : goal.decreases-loop-span
decreases-loop-span l = length l.rest
