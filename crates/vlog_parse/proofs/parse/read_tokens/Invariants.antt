use Rattle.std.proofs.Common.{take}
use Rattle.vlog_parse.proofs.Reaching.{Reached}
use Rattle.vlog_parse.proofs.parse.read_tokens.Given as goal

abbrev pub invariant-loop-token : goal.invariant-loop-token
invariant-loop-token l = Reached l.bytes (take l.token-index l.tokens) l.found l.state
