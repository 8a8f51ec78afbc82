use Rattle.std.proofs.Common.{◌<◌, [], ◌∷◌, length, get_or, refl}
use Rattle.net_encode.proofs.Decoding.{get_it}
use Rattle.net_encode.proofs.Shared.{column_more}
use Rattle.net_encode.proofs.Unread.{leaves_on, none_at, none_of, none_with}
use Rattle.net_encode.proofs.sharing.add_column.Goals as goal

pub loop-n-preserved : goal.loop-n-preserved
loop-n-preserved c =
    let n = c.loop-n.n in
    let members = c.args.members.now in
    let sources = c.args.sources.now in
    let wire = c.loop-n.wire in
    let within : get_or members n 0 < length sources =
    c.requires.group.below n (get_or members n 0) (get_it members n 0 c.loop-n-test.true) in (
      column_more c.args.draft.now c.loop-n.draft c.add_member.new.draft n c.args.t members sources _ wire
          c.in_ok-wire.wire c.has_bit-counts.result c.loop-n-test.true c.has_bit-counts.ensures within
          c.loop-n.invariant.0 c.in_ok-wire.ensures.draws,
      leaves_on c.args.draft.now c.loop-n.draft c.add_member.new.draft sources (wire ∷ []) _
          (c.in_ok-wire.wire ∷ []) (c.in_ok-wire.wire ∷ []) c.loop-n.invariant.1 c.in_ok-wire.ensures.unread
          (λ outputs all front. none_with outputs wire _ (front.each 0 wire refl)
          (none_with outputs _ [] (none_at outputs sources (get_or members n 0) _ within all) (none_of outputs)))
          (λ outputs all front last. last),
    )
