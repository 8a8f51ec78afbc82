use Rattle.std.proofs.Common.{sym, subst, Option}
use Rattle.pbs_base.specs.declared.refusal.Span.{Span}
use Rattle.pbs_check.specs.Declaring.{Rule11}
use Rattle.pbs_check.specs.Least.{IsLeast}
use Rattle.pbs_check.proofs.DeclaringRules.{rule_11_is}
use Rattle.pbs_check.proofs.rules.rule_11.Goals as goal

pub returns : goal.returns
returns c =
    let P : Option Span → Type 0 = IsLeast (Rule11 c.args.spec.now) in subst P (sym c.found_over.ensures)
    (rule_11_is c.args.spec.now)
