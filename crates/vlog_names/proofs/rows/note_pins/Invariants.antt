use Rattle.std.proofs.Common.{◌≡◌, drop}
use Rattle.std.specs.List.{filter_map}
use Rattle.vlog_text.specs.Words.{pin_name}
use Rattle.vlog_text.specs.Refusing.{earliest, refusals}
use Rattle.vlog_names.specs.Names.{kinds_in}
use Rattle.vlog_names.specs.inner.Rows.{faulty}
use Rattle.vlog_names.proofs.rows.note_pins.Given as goal

abbrev pub invariant-loop-pin : goal.invariant-loop-pin
invariant-loop-pin l =
    earliest l.found
    (refusals l.rule (faulty l.fault (kinds_in l.kinds) (filter_map pin_name (drop l.pin-index l.pins))))
    ≡ earliest l.initial.found (refusals l.rule (faulty l.fault (kinds_in l.kinds) (filter_map pin_name (l.pins))))
