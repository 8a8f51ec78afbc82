use Rattle.std.proofs.Common.{ap, ◌∙◌}
use Rattle.std.specs.Prelude.{min, unwrap_or}
use Rattle.vlog_names.proofs.Standings.{plain_wire, reg_wire, gate_wire}
use Rattle.vlog_names.proofs.wires.Numbers.wire.Goals as goal

pub returns-then-is_plain : goal.returns-then-is_plain
returns-then-is_plain c = λ raw are.
    plain_wire raw c.args.self.now are c.args.word.now c.of-kinds.result c.is_plain.result c.input_number.result
    c.of-kinds.ensures c.is_plain.ensures c.if-is_plain.true
    (c.input_number.ensures ∙ ap (λ o. min (unwrap_or o 0) 255) c.find.ensures)

pub returns-then-kinds-2 : goal.returns-then-kinds-2
returns-then-kinds-2 c = λ raw are.
    reg_wire raw c.args.self.now are c.args.word.now c.of-kinds.result c.is_plain.result c.number.result
    c.of-kinds.ensures c.is_plain.ensures c.if-is_plain.false c.if-kinds.false c.if-kinds-2.true
    (c.number.ensures ∙ ap (λ o. unwrap_or o 0) c.find-then-kinds-2.ensures)

pub returns-else-kinds-2 : goal.returns-else-kinds-2
returns-else-kinds-2 c = λ raw are.
    gate_wire raw c.args.self.now are c.args.word.now c.of-kinds.result c.is_plain.result c.number-else-kinds-2.result
    c.of-kinds.ensures c.is_plain.ensures c.if-is_plain.false c.if-kinds.false c.if-kinds-2.false
    (c.number-else-kinds-2.ensures ∙ ap (λ o. unwrap_or o 0) c.find-else-kinds-2.ensures)
