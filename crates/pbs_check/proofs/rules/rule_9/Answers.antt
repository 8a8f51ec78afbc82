use Rattle.std.proofs.Common.{sym, subst, Option}
use Rattle.pbs_base.specs.declared.refusal.Span.{Span}
use Rattle.pbs_names.specs.StarsAndScopes.{Rule9}
use Rattle.pbs_check.specs.Least.{IsLeast}
use Rattle.pbs_check.proofs.StarScopeRules.{rule_9_is}
use Rattle.pbs_check.proofs.rules.rule_9.Goals as goal

pub returns : goal.returns
returns c =
    let P : Option Span → Type 0 = IsLeast (Rule9 c.args.spec.now) in subst P (sym c.found_in.ensures)
    (rule_9_is c.args.spec.now c.args.tables.now c.requires)
