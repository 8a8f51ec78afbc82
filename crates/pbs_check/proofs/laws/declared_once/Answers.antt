use Rattle.pbs_check.proofs.LawLemmas.{different_inputs, different_actions, different_levels}
use Rattle.pbs_check.proofs.laws.declared_once.Goals as goal

pub returns-clause-inputs : goal.returns-clause-inputs
returns-clause-inputs c = different_inputs

pub returns-clause-actions : goal.returns-clause-actions
returns-clause-actions c = different_actions

pub returns-clause-levels : goal.returns-clause-levels
returns-clause-levels c = different_levels
