use Rattle.std.proofs.Common.{[], ◌∷◌, length, refl, ◌≤◌, arith}
use Rattle.net_core.specs.Rows.{value}
use Rattle.net_core.specs.declared.gate.Gate as gate
use Rattle.net_core.specs.declared.gate.GateKind.TheVariants.{Or}
use Rattle.net_core.proofs.Growth.{two_pins, two_or}
use Rattle.net_encode.proofs.Growing.{draws_if_ok}
use Rattle.net_encode.proofs.Unread.{leaves_if_ok}
use Rattle.net_encode.proofs.draft.Draft.or.Goals as goal

pub returns-clause-draws : goal.returns-clause-draws
returns-clause-draws c =
    let pushed : gate.Gate = record { kind = Or; pins = c.in_ok-pins.pins } in
    let few : length c.in_ok-pins.pins ≤ 2 = rw c.in_ok-pins.ensures (omega arith) in
    draws_if_ok c.push_gate.result c.args.self.now c.push_gate.new.self pushed _ _
    c.push_gate.ensures.gate c.push_gate.ensures.wire (record { kind = refl; pins = few })
    (rw c.in_ok-pins.ensures (two_pins c.args.a c.args.b))
    (λ row. rw c.in_ok-pins.ensures (two_or (value row c.args.a) (value row c.args.b)))

pub returns-clause-unread : goal.returns-clause-unread
returns-clause-unread c =
    leaves_if_ok c.push_gate.result c.args.self.now c.push_gate.new.self
    (record { kind = Or; pins = c.in_ok-pins.pins }) (c.args.a ∷ c.args.b ∷ []) c.push_gate.ensures.gate
    c.push_gate.ensures.wire c.in_ok-pins.ensures
