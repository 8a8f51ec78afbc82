use Rattle.pbs_check.proofs.CheckLemmas.{keeps_5, least_5, least_6, least_7, step_ok, step_err, failed_to}
use Rattle.pbs_check.proofs.checking.check_names.Goals as goal

pub returns-in_err-refuse-clause-checked : goal.returns-in_err-refuse-clause-checked
returns-in_err-refuse-clause-checked c =
    let spec = c.args.spec.now in let k5 = keeps_5 spec in
    failed_to spec 8 c.from_residual-in_err-refuse.result c.in_err-refuse.field-0.0
    c.from_residual-in_err-refuse.ensures.1
    (step_err spec 5 c.in_ok-rule_5.field-0 c.refuse.result c.in_err-refuse.field-0.0 k5
    (least_5 spec c.in_ok-rule_5.field-0 c.in_ok-rule_5.ensures) c.refuse.ensures c.in_err-refuse.was)

pub returns-in_err-refuse-2-clause-checked : goal.returns-in_err-refuse-2-clause-checked
returns-in_err-refuse-2-clause-checked c =
    let spec = c.args.spec.now in let k5 = keeps_5 spec in
    let a6 = step_ok spec 5 c.in_ok-rule_5.field-0 c.refuse.result c.in_ok-refuse.field-0 k5
    (least_5 spec c.in_ok-rule_5.field-0 c.in_ok-rule_5.ensures) c.refuse.ensures c.in_ok-refuse.was in
    let k6 = a6 in
    failed_to spec 8 c.from_residual-in_err-refuse-2.result c.in_err-refuse-2.field-0.0
    c.from_residual-in_err-refuse-2.ensures.1
    (step_err spec 6 c.rule_6.result c.refuse-2.result c.in_err-refuse-2.field-0.0 k6
    (least_6 spec c.rule_6.result c.rule_6.ensures) c.refuse-2.ensures c.in_err-refuse-2.was)

pub returns-in_err-refuse-3-clause-checked : goal.returns-in_err-refuse-3-clause-checked
returns-in_err-refuse-3-clause-checked c =
    let spec = c.args.spec.now in let k5 = keeps_5 spec in
    let a6 = step_ok spec 5 c.in_ok-rule_5.field-0 c.refuse.result c.in_ok-refuse.field-0 k5
    (least_5 spec c.in_ok-rule_5.field-0 c.in_ok-rule_5.ensures) c.refuse.ensures c.in_ok-refuse.was in
    let k6 = a6 in
    let a7 = step_ok spec 6 c.rule_6.result c.refuse-2.result c.in_ok-refuse-2.field-0 k6
    (least_6 spec c.rule_6.result c.rule_6.ensures) c.refuse-2.ensures c.in_ok-refuse-2.was in
    let k7 = a7 in
    failed_to spec 8 c.from_residual-in_err-refuse-3.result c.in_err-refuse-3.field-0.0
    c.from_residual-in_err-refuse-3.ensures.1
    (step_err spec 7 c.rule_7.result c.refuse-3.result c.in_err-refuse-3.field-0.0 k7
    (least_7 spec c.rule_7.result c.rule_7.ensures) c.refuse-3.ensures c.in_err-refuse-3.was)

pub returns-clause-checked : goal.returns-clause-checked
returns-clause-checked c =
    let spec = c.args.spec.now in let k5 = keeps_5 spec in
    let a6 = step_ok spec 5 c.in_ok-rule_5.field-0 c.refuse.result c.in_ok-refuse.field-0 k5
    (least_5 spec c.in_ok-rule_5.field-0 c.in_ok-rule_5.ensures) c.refuse.ensures c.in_ok-refuse.was in
    let k6 = a6 in
    let a7 = step_ok spec 6 c.rule_6.result c.refuse-2.result c.in_ok-refuse-2.field-0 k6
    (least_6 spec c.rule_6.result c.rule_6.ensures) c.refuse-2.ensures c.in_ok-refuse-2.was in
    let k7 = a7 in
    let a8 = step_ok spec 7 c.rule_7.result c.refuse-3.result c.in_ok-refuse-3.field-0 k7
    (least_7 spec c.rule_7.result c.rule_7.ensures) c.refuse-3.ensures c.in_ok-refuse-3.was in
    a8
