use Rattle.pbs_print.proofs.Whole.{written_reads_back, read_reads_back, second_reads_back}
use Rattle.pbs_print.proofs.laws.canonical_reads_back.Goals as goal

pub returns-clause-written : goal.returns-clause-written
returns-clause-written c = written_reads_back

pub returns-clause-read : goal.returns-clause-read
returns-clause-read c = read_reads_back

pub returns-clause-second : goal.returns-clause-second
returns-clause-second c = second_reads_back
