use Rattle.std.proofs.Common.{length}
use Rattle.trace_tests.proofs.pieces.+has_rows.Given as goal

abbrev pub decreases-has_rows : goal.decreases-has_rows
decreases-has_rows l = length l.wanted.now
