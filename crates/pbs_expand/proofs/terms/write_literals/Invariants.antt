use Rattle.std.proofs.Common.{map}
use Rattle.bool_terms.specs.Terms.{term_of}
use Rattle.pbs_expand.proofs.WritingLoop.{IsAtBit}
use Rattle.pbs_expand.proofs.terms.write_literals.Given as goal

abbrev pub invariant-loop-bit : goal.invariant-loop-bit
invariant-loop-bit l = IsAtBit l.bus.start l.number l.bit l.bus.width (map term_of l.terms.items) l.nodes
