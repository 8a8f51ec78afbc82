use Rattle.std.proofs.Common.{◌≡◌, ◌∙◌, ap, sym, subst, length, List}
use Rattle.net_core.specs.declared.codes.Code.{Code}
use Rattle.net_encode.specs.inner.Plans.{IsPlan}
use Rattle.net_encode.specs.inner.Sharing.{AreGroups}
use Rattle.net_encode.specs.inner.Telling.{AreTelling}
use Rattle.net_encode.proofs.Wholes.{groups_right, plan_of}
use Rattle.net_encode.proofs.whole.encode.Goals as goal

pub find_seats-requires-clause-groups : goal.find_seats-requires-clause-groups
find_seats-requires-clause-groups c =
    let plan = c.args.plan.now in
    let same : c.len-2.result ≡ length plan.leaders = c.len-2.ensures ∙ c.requires.places in
    rw (same, c.as_slice-2.ensures) (groups_right (length plan.leaders) plan (plan_of plan c.requires.plan))

pub place_codes-requires-clause-plan : goal.place_codes-requires-clause-plan
place_codes-requires-clause-plan c = plan_of c.args.plan.now c.requires.plan

pub telling_codes-requires-clause-plan : goal.telling_codes-requires-clause-plan
telling_codes-requires-clause-plan c = plan_of c.args.plan.now c.requires.plan

pub encoded-requires-clause-plan : goal.encoded-requires-clause-plan
encoded-requires-clause-plan c =
    let plan = c.args.plan.now in
    let same : length c.as_slice-5.result.now ≡ length plan.leaders =
    ap (λ (l : List Code). length l) c.as_slice-5.ensures ∙ c.in_ok-telling.ensures.telling.long in
    subst (λ n. IsPlan n plan) (sym same) (plan_of plan c.requires.plan)
