use Rattle.std.proofs.Common.{◌<◌, ◌∷◌, cond, take, length, ap, ◌∙◌, arith}
use Rattle.std.proofs.lemmas.List.{take_all}
use Rattle.std.proofs.lemmas.List.Folds.{list_any_more}
use Rattle.std.proofs.lemmas.Option.{slice_get-get_or}
use Rattle.net_eval.specs.Readers.{has_pin, is_wire}
use Rattle.net_eval.proofs.Chaining.{holds_same, pins_more}
use Rattle.net_eval.proofs.chains.add_gate.Goals as goal

pub loop-pin-preserved : goal.loop-pin-preserved
loop-pin-preserved c = record {
  sound = c.in_ok-add_reader.ensures.sound;
  heads = c.add_reader.ensures.heads ∙ c.loop-pin.invariant.heads;
  holds = λ gates of there fresh holds.
      let pins = c.args.pins.now in
      let j = c.loop-pin.pin-index in
      let lt : j < length pins = omega arith in
      holds_same c.add_reader.new.chains c.args.registers gates _ _
      (λ w. pins_more c.args.gate of pins j _ fresh w (list_any_more (is_wire w) pins j _ lt))
      (c.in_ok-add_reader.ensures.holds gates (λ w. cond (has_pin w (take j pins)) (c.args.gate ∷ of w) (of w))
      (there.each j _ (slice_get-get_or pins j _ lt)) (c.loop-pin.invariant.holds gates of there fresh holds));
}

pub returns-clause-holds : goal.returns-clause-holds
returns-clause-holds c = λ gates of there fresh holds.
    holds_same _ _ _ _ _
    (λ w. ap (λ ps. cond (has_pin w ps) (c.args.gate ∷ of w) (of w)) (take_all _ c.args.pins.now (omega arith)))
    (c.loop-pin.invariant.holds gates of there fresh holds)
