use Rattle.pbs_check.proofs.LawLemmas.{same_refusal, never_both}
use Rattle.pbs_check.proofs.laws.one_refusal.Goals as goal

pub returns-clause-same : goal.returns-clause-same
returns-clause-same c = same_refusal

pub returns-clause-never : goal.returns-clause-never
returns-clause-never c = never_both
