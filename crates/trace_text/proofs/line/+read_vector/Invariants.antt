use Rattle.std.proofs.Common.{length}
use Rattle.trace_text.proofs.line.+read_vector.Given as goal

abbrev pub decreases-read_vector : goal.decreases-read_vector
decreases-read_vector l = length l.order.now
