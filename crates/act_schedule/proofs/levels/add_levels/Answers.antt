use Rattle.std.proofs.Common.{◌≡◌, List, take, sym, subst, arith}
use Rattle.std.proofs.lemmas.List.{take_all}
use Rattle.net_core.specs.declared.gate.Wire.{Wire}
use Rattle.act_schedule.specs.Circuits.{AddsLevels}
use Rattle.act_schedule.specs.inner.Adding.{AddsLevel}
use Rattle.act_schedule.proofs.Adding.{one_level_more}
use Rattle.act_schedule.proofs.Following.{levels_follow}
use Rattle.act_schedule.proofs.levels.add_levels.Goals as goal

pub loop-l-preserved : goal.loop-l-preserved
loop-l-preserved c =
    let level = c.in-Some.level.now in
    let wire = c.in_ok-wire.wire in
    one_level_more c.args.b.now c.loop-l.b c.add_level.new.b c.args.levels.now c.loop-l.l level
    c.args.fires.now c.loop-l.wires c.push.new.self wire c.loop-l.invariant
    (subst (λ (fires : List Wire). AddsLevel c.loop-l.b c.add_level.new.b level fires wire) c.as_slice.ensures
    c.in_ok-wire.ensures)
    (sym c.in-Some.ensures.value) c.in_ok-push.ensures.ok

pub returns-clause-runs : goal.returns-clause-runs
returns-clause-runs c = λ net all.
    let levels = c.args.levels.now in
    let counted = c.len-l-end.ensures in
    let whole : take c.loop-l.l levels ≡ levels = take_all c.loop-l.l levels (omega (arith, counted)) in
    levels_follow c.args.b.now c.loop-l.b levels c.args.fires.now c.loop-l.wires
    (subst (λ ls. AddsLevels c.args.b.now c.loop-l.b ls c.args.fires.now c.loop-l.wires) whole c.loop-l.invariant)
    net all
