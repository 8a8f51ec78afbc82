use Rattle.std.proofs.Common.{List, arith, ◌∙◌}
use Rattle.std.specs.List.{filter_map}
use Rattle.vlog_text.specs.declared.raw.RawPin.{RawPin}
use Rattle.vlog_text.specs.Words.{pin_name}
use Rattle.vlog_names.specs.Names.{kinds_in}
use Rattle.vlog_names.specs.inner.Rows.{faulty, named_pin}
use Rattle.vlog_names.proofs.Noting.{noted_more, pin_opens}
use Rattle.vlog_names.proofs.rows.note_pins.Goals as goal

pub loop-pin-preserved : goal.loop-pin-preserved
loop-pin-preserved c =
    let fault = c.args.fault in
    let kinds = kinds_in c.args.kinds.now in
    let x = c.pin-item.result in
    noted_more (λ (xs : List RawPin). faulty fault kinds (filter_map pin_name (xs)))
    (λ (p : RawPin). faulty fault kinds (named_pin p))
    (pin_opens fault kinds) c.args.rule c.args.pins.now c.loop-pin.pin-index x c.loop-pin.found c.note_pin-found.result
    (omega arith) c.pin-item.is c.note_pin-found.ensures
    ∙ c.loop-pin.invariant
