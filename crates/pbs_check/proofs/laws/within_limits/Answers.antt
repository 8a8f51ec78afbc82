use Rattle.pbs_check.proofs.LawLemmas.{few_inputs, few_actions, few_levels}
use Rattle.pbs_check.proofs.laws.within_limits.Goals as goal

pub returns-clause-inputs : goal.returns-clause-inputs
returns-clause-inputs c = few_inputs

pub returns-clause-actions : goal.returns-clause-actions
returns-clause-actions c = few_actions

pub returns-clause-levels : goal.returns-clause-levels
returns-clause-levels c = few_levels
