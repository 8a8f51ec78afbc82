use Rattle.std.proofs.Common.{◌≡◌, ◌<◌, ◌∷◌, [], ◌++◌, ◌∙◌, None, ap, length, map, take, get_or, List, ℕ, arith}
use Rattle.std.specs.Prelude.{slice_index_or}
use Rattle.net_core.specs.declared.codes.Code.{Code}
use Rattle.net_core.specs.Plans.{leader_of}
use Rattle.net_encode.specs.Codes.{code_in}
use Rattle.net_encode.specs.inner.Seats.{code_at}
use Rattle.net_encode.proofs.Seated.{leader_seat, map_more, seat_code_is, seat_room}
use Rattle.net_encode.proofs.codes.place_codes.Goals as goal

pub seat_code-requires : goal.seat_code-requires
seat_code-requires c =
    let plan = c.args.plan.now in
    let within : c.loop-n.n < length plan.leaders = omega (arith, c.loop-n-test.true, c.len-n-end.ensures) in
    rw c.as_slice.ensures (seat_room plan.groups (leader_of plan c.loop-n.n) _ c.requires.few
    (leader_seat plan c.args.seats.now c.loop-n.n None c.requires.plan c.requires.seats c.requires.count within))

pub loop-n-preserved : goal.loop-n-preserved
loop-n-preserved c =
    let plan = c.args.plan.now in
    let n = c.loop-n.n in
    let within : n < length plan.leaders = omega (arith, c.loop-n-test.true, c.len-n-end.ensures) in
    let code : c.in_ok-seat_code.field-0 ≡ code_in 0 plan.groups (get_or plan.leaders n 0) =
    c.in_ok-seat_code.ensures
    ∙ ap (λ (l : List ℕ). code_at (slice_index_or c.args.seats.now (slice_index_or l n 0) None)) c.as_slice.ensures
    ∙ seat_code_is plan.groups (leader_of plan n) _ c.requires.plan.once
    (leader_seat plan c.args.seats.now n None c.requires.plan c.requires.seats c.requires.count within) in
    c.in_ok-push.ensures.ok
    ∙ ap (λ (l : List Code). l ++ c.in_ok-seat_code.field-0 ∷ []) c.loop-n.invariant
    ∙ ap (λ (x : Code). map (λ leader. code_in 0 plan.groups leader) (take n plan.leaders) ++ x ∷ []) code
    ∙ map_more (λ leader. code_in 0 plan.groups leader) plan.leaders n within
