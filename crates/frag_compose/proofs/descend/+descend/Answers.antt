use Rattle.std.proofs.Common.{rules, ◌≡◌, ℕ, ◌<◌, length, refl, ap, subst, ◌∙◌, arith}
use Rattle.net_core.specs.Circuits.{Circuit}
use Rattle.frag_compose.specs.declared.plan.Plan.{Plan}
use Rattle.frag_compose.specs.inner.Plans.{PlanFits, plan_nodes}
use Rattle.frag_compose.proofs.Rising.{part_fits, extends_trans}
use Rattle.frag_compose.proofs.descend.+descend.Goals as goal

-- the plan that fits is this one
seen : (b : Circuit) (n : ℕ) (plan seen_as : Plan) → plan ≡ seen_as → PlanFits b n plan → PlanFits b n seen_as
seen b n plan seen_as e h = subst (λ (p : Plan). PlanFits b n p) e h

pub descend-requires : goal.descend-requires
descend-requires t c =
    let fits = seen c.args.b.now (length c.args.wires.now) _ _ c.in-Then.is c.requires.fits in
    let whole = ap plan_nodes c.in-Then.is in
    let part = ap plan_nodes c.deref.ensures in
    let smaller : plan_nodes c.deref.result.now < plan_nodes c.args.plan.now = omega (arith, whole, part) in
    let made = c.in_ok-next-in-Then.ensures.extends in
    let there = part_fits _ c.next_start.new.b _ _ _ _ _ _ made refl c.deref.ensures fits.1 in
    (search rules, (search rules, (search rules, (there, search rules))))

pub descend-requires-in-Then : goal.descend-requires-in-Then
descend-requires-in-Then t c =
    let fits = seen c.args.b.now (length c.args.wires.now) _ _ c.in-Then.is c.requires.fits in
    let whole = ap plan_nodes c.in-Then.is in
    let part = ap plan_nodes c.deref-in-Then.ensures in
    let smaller : plan_nodes c.deref-in-Then.result.now < plan_nodes c.args.plan.now = omega (arith, whole, part) in
    let first = c.in_ok-descend-in-Then.ensures in
    let made = extends_trans _ _ _ _ _ _ _ c.in_ok-next-in-Then.ensures.extends first.extends in
    let there = part_fits _ c.descend.new.b _ _ _ _ _ _ made first.gains.same c.deref-in-Then.ensures fits.2 in
    (search rules, (search rules, (search rules, (there, search rules))))

pub descend-requires-in-Either-2 : goal.descend-requires-in-Either-2
descend-requires-in-Either-2 t c =
    let fits = seen c.args.b.now (length c.args.wires.now) _ _ c.in-Either.is c.requires.fits in
    let whole = ap plan_nodes c.in-Either.is in
    let part = ap plan_nodes c.deref-in-Either-2.ensures in
    let smaller : plan_nodes c.deref-in-Either-2.result.now < plan_nodes c.args.plan.now = omega (arith, whole, part) in
    let first = c.in_ok-descend-in-Either.ensures in
    let there = part_fits _ c.descend-in-Either.new.b _ _ _ _ _ _ first.extends first.gains.same
    c.deref-in-Either-2.ensures fits.1 in
    (search rules, (search rules, (search rules, (there, search rules))))

pub descend-requires-in-Again : goal.descend-requires-in-Again
descend-requires-in-Again t c =
    let fits = seen c.args.b.now (length c.args.wires.now) _ _ c.in-Again.is c.requires.fits in
    let whole = ap plan_nodes c.in-Again.is in
    let part = ap plan_nodes c.deref-in-Again.ensures in
    let smaller : plan_nodes c.deref-in-Again.result.now < plan_nodes c.args.plan.now = omega (arith, whole, part) in
    let made = c.in_ok-again-in-Again.ensures.extends in
    let there = part_fits _ c.again_start.new.b _ _ _ _ _ _ made refl c.deref-in-Again.ensures fits.1 in
    (search rules, (search rules, (search rules, (there, search rules))))

pub descend-requires-in-Watch : goal.descend-requires-in-Watch
descend-requires-in-Watch t c =
    let fits = seen c.args.b.now (length c.args.wires.now) _ _ c.in-Watch.is c.requires.fits in
    let whole = ap plan_nodes c.in-Watch.is in
    let part = ap plan_nodes c.deref-in-Watch.ensures in
    let smaller : plan_nodes c.deref-in-Watch.result.now < plan_nodes c.args.plan.now = omega (arith, whole, part) in
    let made = c.in_ok-down-in-Watch.ensures.extends in
    let there = part_fits _ c.abort_down.new.b _ _ _ _ _ _ made refl c.deref-in-Watch.ensures fits.2 in
    (search rules, (search rules, (search rules, (there, search rules))))

pub descend-requires-in-Watch-2 : goal.descend-requires-in-Watch-2
descend-requires-in-Watch-2 t c =
    let fits = seen c.args.b.now (length c.args.wires.now) _ _ c.in-Watch.is c.requires.fits in
    let whole = ap plan_nodes c.in-Watch.is in
    let part = ap plan_nodes c.deref-in-Watch-2.ensures in
    let smaller : plan_nodes c.deref-in-Watch-2.result.now < plan_nodes c.args.plan.now = omega (arith, whole, part) in
    let first = c.in_ok-descend-in-Watch.ensures in
    let made = extends_trans _ _ _ _ _ _ _ c.in_ok-down-in-Watch.ensures.extends first.extends in
    let there = part_fits _ c.descend-in-Watch.new.b _ _ _ _ _ _ made first.gains.same
    c.deref-in-Watch-2.ensures fits.3 in
    (search rules, (search rules, (search rules, (there, search rules))))

pub descend-requires-in-Watch-3 : goal.descend-requires-in-Watch-3
descend-requires-in-Watch-3 t c =
    let fits = seen c.args.b.now (length c.args.wires.now) _ _ c.in-Watch.is c.requires.fits in
    let whole = ap plan_nodes c.in-Watch.is in
    let part = ap plan_nodes c.deref-in-Watch-3.ensures in
    let smaller : plan_nodes c.deref-in-Watch-3.result.now < plan_nodes c.args.plan.now = omega (arith, whole, part) in
    let first = c.in_ok-descend-in-Watch.ensures in
    let second = c.in_ok-descend-in-Watch-2.ensures in
    let both = extends_trans _ _ _ _ _ _ _ first.extends second.extends in
    let made = extends_trans _ _ _ _ _ _ _ c.in_ok-down-in-Watch.ensures.extends both in
    let there = part_fits _ c.descend-in-Watch-2.new.b _ _ _ _ _ _ made (second.gains.same ∙ first.gains.same)
    c.deref-in-Watch-3.ensures fits.4 in
    (search rules, (search rules, (search rules, (there, search rules))))
