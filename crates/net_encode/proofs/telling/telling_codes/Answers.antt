use Rattle.std.proofs.Common.{◌<◌, ◌∙◌, None, sym, ap, subst, length, List, ℕ, ◌+◌, arith}
use Rattle.std.specs.Prelude.{slice_index_or}
use Rattle.net_core.specs.Plans.{leader_of}
use Rattle.net_encode.specs.inner.Telling.{AreTelling, telling_at}
use Rattle.net_encode.proofs.Seated.{are_small, leader_seat, seat_room, seat_small}
use Rattle.net_encode.proofs.TellingLemmas.{telling_pushed}
use Rattle.net_encode.proofs.telling.telling_codes.Goals as goal

pub seat_telling-requires-clause-room : goal.seat_telling-requires-clause-room
seat_telling-requires-clause-room c =
    let plan = c.args.plan.now in
    let within : c.loop-n.n < length plan.leaders = omega (arith, c.loop-n-test.true, c.len-n-end.ensures) in
    rw c.as_slice.ensures (seat_room plan.groups (leader_of plan c.loop-n.n) _ c.requires.few
    (leader_seat plan c.args.seats.now c.loop-n.n None c.requires.plan c.requires.seats c.requires.count within))

pub seat_telling-requires-clause-code : goal.seat_telling-requires-clause-code
seat_telling-requires-clause-code c =
    let plan = c.args.plan.now in
    let within : c.loop-n.n < length plan.leaders = omega (arith, c.loop-n-test.true, c.len-n-end.ensures) in
    rw c.as_slice.ensures (seat_small plan.groups (leader_of plan c.loop-n.n) _
    (are_small (length plan.leaders) plan c.requires.plan)
    (leader_seat plan c.args.seats.now c.loop-n.n None c.requires.plan c.requires.seats c.requires.count within))

pub loop-n-preserved : goal.loop-n-preserved
loop-n-preserved c =
    let plan = c.args.plan.now in
    let n = c.loop-n.n in
    let within : n < length plan.leaders = omega (arith, c.loop-n-test.true, c.len-n-end.ensures) in
    subst (AreTelling plan (n + 1)) (sym c.in_ok-push.ensures.ok)
    (telling_pushed plan n c.loop-n.codes c.in_ok-seat_telling.field-0 c.loop-n.invariant (record {
      seat = slice_index_or c.args.seats.now (leader_of plan n) None;
      of = leader_seat plan c.args.seats.now n None c.requires.plan c.requires.seats c.requires.count within;
      is =
          c.in_ok-seat_telling.ensures
          ∙ ap (λ (l : List ℕ). telling_at (slice_index_or c.args.seats.now (slice_index_or l n 0) None))
          c.as_slice.ensures;
    }))
