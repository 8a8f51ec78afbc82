use Rattle.pbs_read.proofs.AnswerLemmas.{only_spec, only_memory, never_read, only_refused}
use Rattle.pbs_read.proofs.spec.read_spec.Goals as goal

pub returns-clause-only : goal.returns-clause-only
returns-clause-only c spec = only_spec c.args.bytes.now c.read.result spec c.read.ensures.found

pub returns-clause-only_memory : goal.returns-clause-only_memory
returns-clause-only_memory c spec = only_memory c.args.bytes.now c.read.result spec c.read.ensures.refused

pub returns-clause-never : goal.returns-clause-never
returns-clause-never c r = never_read c.args.bytes.now c.read.result r c.read.ensures.found

pub returns-clause-only_refused : goal.returns-clause-only_refused
returns-clause-only_refused c r = only_refused c.args.bytes.now c.read.result r c.read.ensures.refused
