use Rattle.std.proofs.Common.{length}
use Rattle.trace_tests.proofs.pieces.+read_head.Given as goal

abbrev pub decreases-read_head : goal.decreases-read_head
decreases-read_head l = length l.pieces.now
