use Rattle.pbs_check.proofs.CheckLemmas.{keeps_18, least_9, least_10, least_11, least_18, least_19, step_ok, step_err}
use Rattle.pbs_check.proofs.CheckLemmas.{step_last, failed}
use Rattle.pbs_check.proofs.checking.check_others.Goals as goal

pub returns-in_err-refuse : goal.returns-in_err-refuse
returns-in_err-refuse c =
    let spec = c.args.spec.now in let k9 = c.requires.kept in
    failed spec c.from_residual.result c.in_err-refuse.field-0.0 c.from_residual.ensures.1
    (step_err spec 9 c.rule_9.result c.refuse.result c.in_err-refuse.field-0.0 k9
    (least_9 spec c.rule_9.result c.rule_9.ensures) c.refuse.ensures c.in_err-refuse.was)

pub returns-in_err-refuse-2 : goal.returns-in_err-refuse-2
returns-in_err-refuse-2 c =
    let spec = c.args.spec.now in let k9 = c.requires.kept in
    let a10 = step_ok spec 9 c.rule_9.result c.refuse.result c.in_ok-refuse.field-0 k9
    (least_9 spec c.rule_9.result c.rule_9.ensures) c.refuse.ensures c.in_ok-refuse.was in
    let k10 = a10 in
    failed spec c.from_residual-in_err-refuse-2.result c.in_err-refuse-2.field-0.0
    c.from_residual-in_err-refuse-2.ensures.1
    (step_err spec 10 c.rule_10.result c.refuse-2.result c.in_err-refuse-2.field-0.0 k10
    (least_10 spec c.rule_10.result c.rule_10.ensures) c.refuse-2.ensures c.in_err-refuse-2.was)

pub returns-in_err-refuse-3 : goal.returns-in_err-refuse-3
returns-in_err-refuse-3 c =
    let spec = c.args.spec.now in let k9 = c.requires.kept in
    let a10 = step_ok spec 9 c.rule_9.result c.refuse.result c.in_ok-refuse.field-0 k9
    (least_9 spec c.rule_9.result c.rule_9.ensures) c.refuse.ensures c.in_ok-refuse.was in
    let k10 = a10 in
    let a11 = step_ok spec 10 c.rule_10.result c.refuse-2.result c.in_ok-refuse-2.field-0 k10
    (least_10 spec c.rule_10.result c.rule_10.ensures) c.refuse-2.ensures c.in_ok-refuse-2.was in
    let k11 = a11 in
    failed spec c.from_residual-in_err-refuse-3.result c.in_err-refuse-3.field-0.0
    c.from_residual-in_err-refuse-3.ensures.1
    (step_err spec 11 c.rule_11.result c.refuse-3.result c.in_err-refuse-3.field-0.0 k11
    (least_11 spec c.rule_11.result c.rule_11.ensures) c.refuse-3.ensures c.in_err-refuse-3.was)

pub returns-in_err-refuse-4 : goal.returns-in_err-refuse-4
returns-in_err-refuse-4 c =
    let spec = c.args.spec.now in let k9 = c.requires.kept in
    let a10 = step_ok spec 9 c.rule_9.result c.refuse.result c.in_ok-refuse.field-0 k9
    (least_9 spec c.rule_9.result c.rule_9.ensures) c.refuse.ensures c.in_ok-refuse.was in
    let k10 = a10 in
    let a11 = step_ok spec 10 c.rule_10.result c.refuse-2.result c.in_ok-refuse-2.field-0 k10
    (least_10 spec c.rule_10.result c.rule_10.ensures) c.refuse-2.ensures c.in_ok-refuse-2.was in
    let k11 = a11 in
    let a12 = step_ok spec 11 c.rule_11.result c.refuse-3.result c.in_ok-refuse-3.field-0 k11
    (least_11 spec c.rule_11.result c.rule_11.ensures) c.refuse-3.ensures c.in_ok-refuse-3.was in
    let k18 = keeps_18 spec a12 in
    failed spec c.from_residual-in_err-refuse-4.result c.in_err-refuse-4.field-0.0
    c.from_residual-in_err-refuse-4.ensures.1
    (step_err spec 18 c.rule_18.result c.refuse-4.result c.in_err-refuse-4.field-0.0 k18
    (least_18 spec c.rule_18.result c.rule_18.ensures) c.refuse-4.ensures c.in_err-refuse-4.was)

pub returns : goal.returns
returns c =
    let spec = c.args.spec.now in let k9 = c.requires.kept in
    let a10 = step_ok spec 9 c.rule_9.result c.refuse.result c.in_ok-refuse.field-0 k9
    (least_9 spec c.rule_9.result c.rule_9.ensures) c.refuse.ensures c.in_ok-refuse.was in
    let k10 = a10 in
    let a11 = step_ok spec 10 c.rule_10.result c.refuse-2.result c.in_ok-refuse-2.field-0 k10
    (least_10 spec c.rule_10.result c.rule_10.ensures) c.refuse-2.ensures c.in_ok-refuse-2.was in
    let k11 = a11 in
    let a12 = step_ok spec 11 c.rule_11.result c.refuse-3.result c.in_ok-refuse-3.field-0 k11
    (least_11 spec c.rule_11.result c.rule_11.ensures) c.refuse-3.ensures c.in_ok-refuse-3.was in
    let k18 = keeps_18 spec a12 in
    let a19 = step_ok spec 18 c.rule_18.result c.refuse-4.result c.in_ok-refuse-4.field-0 k18
    (least_18 spec c.rule_18.result c.rule_18.ensures) c.refuse-4.ensures c.in_ok-refuse-4.was in
    let k19 = a19 in
    step_last spec c.rule_19.result c.refuse-5.result k19 (least_19 spec c.rule_19.result c.rule_19.ensures)
    c.refuse-5.ensures
