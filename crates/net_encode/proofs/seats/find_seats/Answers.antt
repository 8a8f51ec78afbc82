use Rattle.std.proofs.Common.{◌≡◌, ◌+◌, ◌<◌, ◌∙◌, ap, length, arith}
use Rattle.std.specs.Prelude.{◌^◌}
use Rattle.net_encode.specs.Codes.{width}
use Rattle.net_encode.proofs.Seated.{all_seated, group_at, group_room, registers_next}
use Rattle.net_encode.proofs.seats.find_seats.Goals as goal

pub overflow_add-first : goal.overflow_add-first
overflow_add-first c =
    let groups = c.args.groups.now in
    let g = c.index-groups-n.result in
    let at = group_at groups c.loop-n.n g c.loop-n-test.true c.index-groups-n.is in
    let room = group_room groups c.loop-n.n g at in
    let wide : c.group_width-first.result ≡ width (length g) = c.group_width-first.ensures ∙ ap width c.len.ensures in
    let few = c.requires.few in
    let bound : c.loop-n.first + c.group_width-first.result < 2 ^ 32 =
    omega (arith, room, wide, few, c.loop-n.invariant.0) in
    omega (arith, bound)

pub loop-n-preserved : goal.loop-n-preserved
loop-n-preserved c =
    let groups = c.args.groups.now in
    let g = c.index-groups-n.result in
    let at = group_at groups c.loop-n.n g c.loop-n-test.true c.index-groups-n.is in
    let next = registers_next groups c.loop-n.n g at in
    let wide : c.group_width-first.result ≡ width (length g) = c.group_width-first.ensures ∙ ap width c.len.ensures in (
      omega (arith, next, wide, c.loop-n.invariant.0),
      c.seat_members.ensures.count ∙ c.loop-n.invariant.1,
      c.seat_members.ensures.seats,
    )

pub returns-clause-seats : goal.returns-clause-seats
returns-clause-seats c =
    all_seated c.args.groups.now c.loop-n.n c.loop-n.seats.items (omega (arith, c.loop-n-test.false))
    c.loop-n.invariant.2
