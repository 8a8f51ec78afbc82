use Rattle.std.proofs.Common.{◌≡◌, Option, sym, subst}
use Rattle.pbs_ast.proofs.Items.{ok_then}
use Rattle.pbs_base.specs.declared.refusal.Span.{Span}
use Rattle.pbs_check.specs.Declaring.{Rule5}
use Rattle.pbs_check.specs.Least.{IsLeast}
use Rattle.pbs_check.specs.inner.Stages.{found_twice}
use Rattle.pbs_check.proofs.DeclaringRules.{rule_5_is}
use Rattle.pbs_check.proofs.rules.rule_5.Goals as goal

pub returns : goal.returns
returns c =
    let P : Option Span → Type 0 = IsLeast (Rule5 c.args.spec.now) in
    ok_then c.found_twice.result c.found_twice.ensures
    (λ (o : Option Span) (is : o ≡ found_twice c.args.spec.now). subst P (sym is) (rule_5_is c.args.spec.now))
