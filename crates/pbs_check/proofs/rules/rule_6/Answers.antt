use Rattle.std.proofs.Common.{sym, subst, Option}
use Rattle.pbs_base.specs.declared.refusal.Span.{Span}
use Rattle.pbs_check.specs.Using.{Rule6}
use Rattle.pbs_check.specs.Least.{IsLeast}
use Rattle.pbs_check.proofs.UseRules.{rule_6_is}
use Rattle.pbs_check.proofs.rules.rule_6.Goals as goal

pub returns : goal.returns
returns c =
    let P : Option Span → Type 0 = IsLeast (Rule6 c.args.spec.now) in subst P (sym c.found_in.ensures)
    (rule_6_is c.args.spec.now c.args.tables.now c.requires)
