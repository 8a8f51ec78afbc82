use Rattle.std.proofs.Common.{◌≡◌, drop}
use Rattle.std.specs.List.{filter_map, flat_map}
use Rattle.vlog_text.specs.declared.raw.RawGate.{RawGate}
use Rattle.vlog_text.specs.Words.{pin_name}
use Rattle.vlog_text.specs.Refusing.{earliest, refusals}
use Rattle.vlog_names.specs.Names.{kinds_in}
use Rattle.vlog_names.specs.inner.Rows.{faulty}
use Rattle.vlog_names.proofs.rows.note_gate_pins.Given as goal

abbrev pub invariant-loop-gate : goal.invariant-loop-gate
invariant-loop-gate l =
    earliest l.found
    (refusals l.rule
    (faulty l.fault (kinds_in l.kinds)
    (flat_map (λ (g : RawGate). filter_map pin_name g.pins) (drop l.gate-index l.gates))))
    ≡ earliest l.initial.found
    (refusals l.rule
    (faulty l.fault (kinds_in l.kinds) (flat_map (λ (g : RawGate). filter_map pin_name g.pins) (l.gates))))
