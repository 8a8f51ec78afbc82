use Rattle.std.proofs.Common.{◌+◌, ◌-◌, ◌*◌, length}
use Rattle.pbs_descent.proofs.ExprExits.{SeqGrows, ExprGrows}
use Rattle.pbs_descent.proofs.exprs.+exprs.Given as goal

abbrev pub decreases-group : goal.decreases-group
decreases-group l = 7 * (65 - l.depth)

abbrev pub decreases-hold : goal.decreases-hold
decreases-hold l = 7 * (65 - l.depth) + 1

abbrev pub decreases-trap_and_after : goal.decreases-trap_and_after
decreases-trap_and_after l = 7 * (65 - l.depth) + 1

abbrev pub decreases-scope : goal.decreases-scope
decreases-scope l = 7 * (65 - l.depth) + 2

abbrev pub decreases-prim : goal.decreases-prim
decreases-prim l = 7 * (65 - l.depth) + 3

abbrev pub decreases-item : goal.decreases-item
decreases-item l = 7 * (65 - l.depth) + 4

abbrev pub decreases-seq : goal.decreases-seq
decreases-seq l = 7 * (65 - l.depth) + 5

abbrev pub decreases-expr : goal.decreases-expr
decreases-expr l = 7 * (65 - l.depth) + 6

abbrev pub invariant-seq-loop-after : goal.invariant-seq-loop-after
invariant-seq-loop-after l = SeqGrows l.two l.bytes l.end l.depth l.tokens l.items l.extent l.rest

abbrev pub decreases-seq-loop-after : goal.decreases-seq-loop-after
decreases-seq-loop-after l = length l.rest

abbrev pub invariant-expr-loop-after : goal.invariant-expr-loop-after
invariant-expr-loop-after l = ExprGrows l.two l.bytes l.end l.depth l.tokens l.items l.extent l.rest

abbrev pub decreases-expr-loop-after : goal.decreases-expr-loop-after
decreases-expr-loop-after l = length l.rest
