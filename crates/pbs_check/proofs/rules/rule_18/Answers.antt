use Rattle.std.proofs.Common.{sym, subst, Option}
use Rattle.pbs_base.specs.declared.refusal.Span.{Span}
use Rattle.pbs_check.specs.Using.{Rule18}
use Rattle.pbs_check.specs.Least.{IsLeast}
use Rattle.pbs_check.proofs.LimitRules.{rule_18_is}
use Rattle.pbs_check.proofs.rules.rule_18.Goals as goal

pub returns : goal.returns
returns c =
    let P : Option Span → Type 0 = IsLeast (Rule18 c.args.spec.now) in subst P (sym c.found_in.ensures)
    (rule_18_is c.args.spec.now c.args.tables.now)
