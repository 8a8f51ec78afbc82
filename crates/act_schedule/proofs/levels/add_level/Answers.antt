use Rattle.std.proofs.Common.{List, ◌*◌, length, subst, arith}
use Rattle.net_core.specs.Building.{Extends, input_pins}
use Rattle.act_schedule.specs.declared.plan.PlanSet.{PlanSet}
use Rattle.act_schedule.specs.inner.Adding.{listed_below}
use Rattle.act_schedule.proofs.Adding.{GoneThrough, level_added}
use Rattle.act_schedule.proofs.levels.add_level.Goals as goal

pub returns : goal.returns
returns c =
    let fires = c.args.fires.now in
    let made = c.set_gates.new.b in
    let built = c.all_gates.new.b in
    let sets = c.as_slice.ensures in
    let all = c.in_ok-wire.ensures in
    let number = c.in_ok-reg.ensures.number in
    level_added c.args.b.now c.register.new.self made built c.bind_register.new.self
    c.args.level.now fires c.in_ok-reg.reg c.in_ok-kept.kept c.in_ok-wire.wire
    number c.in_ok-reg.ensures.register c.in_ok-kept.ensures.extends c.in_ok-kept.ensures.means
    (subst (λ (s : List PlanSet). Extends made built (2 * listed_below s (length fires)) (input_pins fires)) sets
    all.extends)
    (subst (λ (s : List PlanSet). GoneThrough built s fires c.in_ok-kept.kept (length fires) c.in_ok-wire.wire) sets
    all.means)
    c.bind_register.ensures.data_wire
    (λ keeps. c.bind_register.ensures.keeps c.args.b.now keeps (omega (arith, number)))
