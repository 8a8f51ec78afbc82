use Rattle.std.proofs.Common.{length}
use Rattle.pbs_read.proofs.DeclExits.{NamesSoFar}
use Rattle.pbs_read.proofs.decls.names.Given as goal

abbrev pub invariant-loop-after : goal.invariant-loop-after
invariant-loop-after l = NamesSoFar l.bytes l.end l.tokens l.fn.list l.list l.rest

abbrev pub decreases-loop-after : goal.decreases-loop-after
decreases-loop-after l = length l.rest
