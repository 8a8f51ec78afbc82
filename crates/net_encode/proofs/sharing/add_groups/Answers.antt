use Rattle.std.proofs.Common.{◌≡◌, ℕ, List, ◌++◌, length, ap, take, arith}
use Rattle.net_core.specs.Rows.{value}
use Rattle.net_core.specs.Circuits.{wire_at}
use Rattle.net_encode.specs.Codes.{width}
use Rattle.net_encode.proofs.Coded.{registers_more}
use Rattle.net_encode.specs.inner.Columns.{code_bits}
use Rattle.net_encode.proofs.Shared.{groups_more}
use Rattle.net_encode.proofs.Unread.{leaves_on, none_both}
use Rattle.net_encode.proofs.sharing.add_groups.Goals as goal

pub loop-n-preserved : goal.loop-n-preserved
loop-n-preserved c =
    let n = c.loop-n.n in
    let groups = c.args.groups.now in
    let sources = c.args.sources.now in
    let made = groups_more c.args.draft.now c.loop-n.draft c.add_group.new.draft n sources groups
    c.index-groups-n.result c.as_slice.result.now c.add_group.new.wires c.loop-n-test.true c.index-groups-n.is
    c.as_slice.ensures c.loop-n.invariant.0 c.in_ok-add_group.ensures.grows
    (c.in_ok-add_group.ensures.wires (λ row. code_bits (λ p. value row (wire_at sources p)) (take n groups))
    c.loop-n.invariant.1) in
    let g = c.index-groups-n.result in
    let same : width (length c.as_slice.result.now) ≡ width (length g) =
    ap (λ (l : List ℕ). width (length l)) c.as_slice.ensures in
    let more = registers_more groups n g c.loop-n-test.true c.index-groups-n.is in (
      made.0,
      made.1,
      omega (arith, c.in_ok-add_group.ensures.count, same, more, c.loop-n.invariant.2),
      leaves_on c.args.draft.now c.loop-n.draft c.add_group.new.draft sources c.loop-n.wires
          (sources ++ c.loop-n.wires) c.add_group.new.wires c.add_group.new.wires c.loop-n.invariant.3
          c.in_ok-add_group.ensures.unread
          (λ outputs all front. none_both outputs sources c.loop-n.wires all front)
          (λ outputs all front last. last),
    )
