use Rattle.std.proofs.Common.{List, arith, ap, ◌∙◌}
use Rattle.std.specs.List.{filter_map, flat_map}
use Rattle.vlog_text.specs.declared.raw.RawGate.{RawGate}
use Rattle.vlog_text.specs.declared.raw.RawPin.{RawPin}
use Rattle.vlog_text.specs.Words.{pin_name}
use Rattle.vlog_text.specs.Refusing.{earliest, refusals}
use Rattle.vlog_names.specs.Names.{kinds_in}
use Rattle.vlog_names.specs.inner.Rows.{faulty}
use Rattle.vlog_names.proofs.Noting.{noted_more, gate_opens}
use Rattle.vlog_names.proofs.rows.note_gate_pins.Goals as goal

pub loop-gate-preserved : goal.loop-gate-preserved
loop-gate-preserved c =
    let fault = c.args.fault in
    let kinds = kinds_in c.args.kinds.now in
    let x = c.gate-item.result in
    noted_more (λ (xs : List RawGate). faulty fault kinds (flat_map (λ (g : RawGate). filter_map pin_name g.pins) (xs)))
    (λ (g : RawGate). faulty fault kinds (filter_map pin_name g.pins))
    (gate_opens fault kinds) c.args.rule c.args.gates.now c.loop-gate.gate-index x c.loop-gate.found
    c.note_pins-found.result
    (omega arith) c.gate-item.is (c.note_pins-found.ensures
    ∙ ap (λ (ps : List RawPin). earliest c.loop-gate.found
    (refusals c.args.rule (faulty fault kinds (filter_map pin_name ps)))) c.as_slice.ensures)
    ∙ c.loop-gate.invariant
