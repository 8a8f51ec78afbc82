use Rattle.std.proofs.Common.{Err}
use Rattle.pbs_text.specs.Answers.{Refuses}
use Rattle.pbs_text.specs.declared.fail.ReadSpec.TheVariants as reads
use Rattle.pbs_ast.specs.Bare.{bare}
use Rattle.pbs_check.specs.Checked.{Checks}
use Rattle.pbs_check.specs.declared.fail.Check.TheVariants as checks
use Rattle.pbs_engine.specs.Accepted.{OnReading, OnSpec, OnRules}
use Rattle.pbs_engine.proofs.front.accept.Goals as goal

pub returns-in-Err-Refused : goal.returns-in-Err-Refused
returns-in-Err-Refused c =
    let refuses : Refuses c.args.text.now (reads.Refused c.in-Err-Refused.refusal) =
    rw c.in-Err-Refused.field-0-is at c.in-Err-Refused.ensures.refused in
    rw c.in-Err-Refused.field-0-is (OnReading refuses)

pub returns-in-Err-Refused-check_spec : goal.returns-in-Err-Refused-check_spec
returns-in-Err-Refused-check_spec c =
    let spec = c.in-Ok.spec in
    let r = c.in-Err-Refused-check_spec.refusal in
    let first : Checks spec (Err (checks.Refused r)) =
    rw c.in-Err-Refused-check_spec.field-0-is at c.in-Err-Refused-check_spec.ensures in
    rw c.in-Err-Refused-check_spec.field-0-is
    (OnSpec (bare spec) c.in-Ok.ensures.found
    (OnRules ((c.same_rules.ensures.answer spec (Err (checks.Refused r))).0 first)))
