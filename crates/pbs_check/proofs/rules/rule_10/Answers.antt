use Rattle.std.proofs.Common.{sym, subst, Option}
use Rattle.pbs_base.specs.declared.refusal.Span.{Span}
use Rattle.pbs_names.specs.StarsAndScopes.{Rule10}
use Rattle.pbs_check.specs.Least.{IsLeast}
use Rattle.pbs_check.proofs.StarScopeRules.{rule_10_is}
use Rattle.pbs_check.proofs.rules.rule_10.Goals as goal

pub returns : goal.returns
returns c =
    let P : Option Span → Type 0 = IsLeast (Rule10 c.args.spec.now) in subst P (sym c.found_in.ensures)
    (rule_10_is c.args.spec.now c.args.tables.now c.requires)
