use Rattle.pbs_overlap.proofs.RuleLemmas.{same_refusal, never_clear}
use Rattle.pbs_overlap.proofs.laws.one_tree_refusal.Goals as goal

pub returns-clause-same : goal.returns-clause-same
returns-clause-same c = λ main span r s a b. same_refusal main span r s a b

pub returns-clause-never : goal.returns-clause-never
returns-clause-never c = λ main span r a clear. never_clear main span r a clear
