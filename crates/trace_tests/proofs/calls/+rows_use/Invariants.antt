use Rattle.std.proofs.Common.{length}
use Rattle.trace_tests.proofs.calls.+rows_use.Given as goal

abbrev pub decreases-rows_use : goal.decreases-rows_use
decreases-rows_use l = length l.calls.now
