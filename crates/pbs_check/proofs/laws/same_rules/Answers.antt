use Rattle.pbs_check.proofs.SameRules.{same_broken, same_first, same_checks}
use Rattle.pbs_check.proofs.laws.same_rules.Goals as goal

pub returns-clause-broken : goal.returns-clause-broken
returns-clause-broken c = same_broken

pub returns-clause-first : goal.returns-clause-first
returns-clause-first c = same_first

pub returns-clause-answer : goal.returns-clause-answer
returns-clause-answer c = same_checks
