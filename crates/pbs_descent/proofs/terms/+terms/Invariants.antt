use Rattle.std.proofs.Common.{◌+◌, ◌-◌, ◌*◌, length}
use Rattle.pbs_descent.proofs.TermExits.{AllGrows, TermGrows}
use Rattle.pbs_descent.proofs.terms.+terms.Given as goal

abbrev pub decreases-bracket : goal.decreases-bracket
decreases-bracket l = 4 * (65 - l.depth)

abbrev pub decreases-negation : goal.decreases-negation
decreases-negation l = 4 * (65 - l.depth)

abbrev pub decreases-unit : goal.decreases-unit
decreases-unit l = 4 * (65 - l.depth) + 1

abbrev pub decreases-all : goal.decreases-all
decreases-all l = 4 * (65 - l.depth) + 2

abbrev pub decreases-term : goal.decreases-term
decreases-term l = 4 * (65 - l.depth) + 3

abbrev pub invariant-all-loop-after : goal.invariant-all-loop-after
invariant-all-loop-after l = AllGrows l.two l.bytes l.end l.depth l.tokens l.items l.rest

abbrev pub decreases-all-loop-after : goal.decreases-all-loop-after
decreases-all-loop-after l = length l.rest

abbrev pub invariant-term-loop-after : goal.invariant-term-loop-after
invariant-term-loop-after l = TermGrows l.two l.bytes l.end l.depth l.tokens l.items l.rest

abbrev pub decreases-term-loop-after : goal.decreases-term-loop-after
decreases-term-loop-after l = length l.rest
