use Rattle.std.proofs.Common.{length}
use Rattle.vlog_lex.proofs.Lexes.{LexedTo}
use Rattle.vlog_lex.proofs.tokens.tokens_of.Given as goal

abbrev pub invariant-loop-rest : goal.invariant-loop-rest
invariant-loop-rest l = LexedTo l.bytes l.found.items l.at l.rest

abbrev pub decreases-loop-rest : goal.decreases-loop-rest
decreases-loop-rest l = length l.rest
