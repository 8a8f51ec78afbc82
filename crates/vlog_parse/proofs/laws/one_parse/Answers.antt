use Rattle.vlog_parse.proofs.Exact as exact
use Rattle.vlog_parse.proofs.laws.one_parse.Goals as goal

pub returns-clause-read : goal.returns-clause-read
returns-clause-read c bytes p q = exact.one_read bytes p q

pub returns-clause-refused : goal.returns-clause-refused
returns-clause-refused c bytes q r = exact.one_refusal bytes q r

pub returns-clause-neither : goal.returns-clause-neither
returns-clause-neither c bytes p r = exact.never_both bytes p r
