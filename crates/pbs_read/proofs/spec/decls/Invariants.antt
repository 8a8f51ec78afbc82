use Rattle.std.proofs.Common.{length}
use Rattle.pbs_read.specs.inner.TextDescent.{ReadsDecls, bare_lists}
use Rattle.pbs_read.proofs.spec.decls.Given as goal

abbrev pub invariant-loop-found : goal.invariant-loop-found
invariant-loop-found l = ReadsDecls l.two l.bytes l.end l.tokens (bare_lists l.lists) l.rest

abbrev pub decreases-loop-found : goal.decreases-loop-found
decreases-loop-found l = length l.rest
