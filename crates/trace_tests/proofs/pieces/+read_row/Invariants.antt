use Rattle.std.proofs.Common.{length}
use Rattle.trace_tests.proofs.pieces.+read_row.Given as goal

abbrev pub decreases-read_row : goal.decreases-read_row
decreases-read_row l = length l.behind.now
