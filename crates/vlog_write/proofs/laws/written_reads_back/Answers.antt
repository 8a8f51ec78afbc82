use Rattle.vlog_write.proofs.Whole.{written_is_read}
use Rattle.vlog_write.proofs.laws.written_reads_back.Goals as goal

pub returns : goal.returns
returns c = written_is_read
