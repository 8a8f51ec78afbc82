use Rattle.std.proofs.Common.{◌≡◌, ◌*◌, [], ◌++◌, append-nil, ap, sym, length, take, arith}
use Rattle.std.proofs.Common.{List}
use Rattle.net_core.specs.declared.gate.Wire.{Wire}
use Rattle.net_core.proofs.Pushed.{length_pushed}
use Rattle.net_core.specs.Rows.{value}
use Rattle.net_core.specs.Circuits.{wire_at}
use Rattle.net_encode.specs.Codes.{width}
use Rattle.net_encode.specs.inner.Columns.{group_bits}
use Rattle.net_encode.proofs.Bits.{width_few}
use Rattle.net_encode.proofs.Growing.{grows_more, grows_none}
use Rattle.net_encode.proofs.Shared.{group_more, bits_same, three}
use Rattle.net_encode.proofs.Unread.{leaves_more, leaves_own, none_back, none_front}
use Rattle.net_encode.proofs.sharing.add_group.Goals as goal

pub loop-t-init : goal.loop-t-init
loop-t-init c =
    let draft = c.args.draft.now in
    let sources = c.args.sources.now in
    let wires = c.args.wires.now in (
      grows_more draft draft 0 (0 * length c.args.members.now) 0 0 (omega arith) (omega arith) (grows_none draft),
      λ bits_of first.
          bits_same draft wires bits_of (λ row. bits_of row ++ []) first (λ row. sym (append-nil (bits_of row))),
      omega arith,
      leaves_own draft (sources ++ wires) wires (λ outputs all. none_back outputs sources wires all),
    )

pub loop-t-preserved : goal.loop-t-preserved
loop-t-preserved c =
    let members = c.args.members.now in
    let few = width_few (length members) in
    let made = group_more c.args.draft.now c.loop-t.draft c.add_column.new.draft c.loop-t.t c.args.sources.now members
    c.args.wires.now c.loop-t.wires c.push.new.self c.in_ok-wire.wire
    (omega (arith, few, c.group_width-count.ensures)) c.loop-t.invariant.0 c.loop-t.invariant.1
    c.in_ok-wire.ensures.draws c.in_ok-push.ensures.ok in
    let longer = ap (λ (l : List Wire). length l) c.in_ok-push.ensures.ok in
    let one = length_pushed c.loop-t.wires c.in_ok-wire.wire in (
      made.0,
      made.1,
      omega (arith, longer, one, c.loop-t.invariant.2),
      leaves_more c.args.draft.now c.loop-t.draft c.add_column.new.draft (c.args.sources.now ++ c.args.wires.now)
          c.loop-t.wires c.args.sources.now c.in_ok-wire.wire c.push.new.self c.loop-t.invariant.3
          c.in_ok-wire.ensures.unread (λ outputs all. none_front outputs c.args.sources.now c.args.wires.now all)
          c.in_ok-push.ensures.ok,
    )

pub returns-clause-wires : goal.returns-clause-wires
returns-clause-wires c = λ bits_of first.
    let members = c.args.members.now in
    let sources = c.args.sources.now in
    let t = c.loop-t.t in
    let all : t ≡ width (length members) = omega (arith, c.group_width-count.ensures) in
    bits_same c.loop-t.draft c.loop-t.wires (λ row. bits_of row ++ take t (three sources members row))
    (λ row. bits_of row ++ group_bits (λ p. value row (wire_at sources p)) members)
    (c.loop-t.invariant.1 bits_of first)
    (λ row. ap (λ n. bits_of row ++ take n (three sources members row)) all)
