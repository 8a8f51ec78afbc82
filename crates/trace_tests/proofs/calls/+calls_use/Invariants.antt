use Rattle.std.proofs.Common.{length}
use Rattle.trace_tests.proofs.calls.+calls_use.Given as goal

abbrev pub decreases-calls_use : goal.decreases-calls_use
decreases-calls_use l = length l.heads.now
