-- With at most 64 inputs no input's number is capped.
use Rattle.std.proofs.Common.{◌≡◌, ℕ, ◌≤◌, Bool, true, false, cond, List, [], ◌∷◌, length, map}
use Rattle.std.proofs.Common.{Option, Some, None, refl, ap, ◌∙◌, arith}
use Rattle.std.specs.Prelude.{unwrap_or, min}
use Rattle.std.specs.List.{position_from}
use Rattle.net_core.specs.declared.gate.Wire.{Wire}
use Rattle.net_core.specs.declared.gate.Wire.TheVariants as wire
use Rattle.net_core.specs.declared.gate.Gate as gate
use Rattle.vlog_text.specs.declared.raw.RawName.{RawName}
use Rattle.vlog_text.specs.declared.raw.RawGate.{RawGate}
use Rattle.vlog_text.specs.declared.raw.RawNetlist.{RawNetlist}
use Rattle.vlog_text.specs.declared.raw.RawPin.{RawPin}
use Rattle.vlog_text.specs.declared.raw.RawPin.TheVariants as pin
use Rattle.vlog_text.specs.Words.{has_word}
use Rattle.vlog_text.specs.Standing.{is_input, is_reg, is_declared, is_plain_input, inputs, registers, driver}
use Rattle.vlog_text.specs.Standing.{number_of, word_wire, pin_wire, resolved, text_gates}
use Rattle.vlog_names.specs.Numbers.{capped, capped_gate}
use Rattle.vlog_names.proofs.Standings.{position_within}

few_number : (names : List RawName) (w : List ℕ) → length names ≤ 64 → min (number_of names w) 255 ≡ number_of names w
few_number names w few = go (position_from (has_word w) 0 names) refl
  where
    go : (o : Option ℕ) → position_from (has_word w) 0 names ≡ o → min (unwrap_or o 0) 255 ≡ unwrap_or o 0
    go None e = refl
    go (Some n) e = let below = position_within (has_word w) 0 names n e in omega arith

module _ (raw : RawNetlist) (few : length (inputs raw) ≤ 64) where
  capped_word : (w : List ℕ) → capped (word_wire raw w) ≡ word_wire raw w
  capped_word w = go (is_plain_input raw w) (is_declared raw is_input w) (is_declared raw is_reg w)
    where
      go : (a b c : Bool) → capped (cond a (wire.Input (number_of (inputs raw) w)) (cond b wire.Reset
          (cond c (wire.Reg (number_of (registers raw) w)) (wire.Gate (driver raw w)))))
          ≡ cond a (wire.Input (number_of (inputs raw) w)) (cond b wire.Reset
          (cond c (wire.Reg (number_of (registers raw) w)) (wire.Gate (driver raw w))))
      go true b c = ap (λ n. wire.Input n) (few_number (inputs raw) w few)
      go false true c = refl
      go false false true = refl
      go false false false = refl

  pub capped_pin : (p : RawPin) → capped (pin_wire raw p) ≡ pin_wire raw p
  capped_pin (pin.Const b) = refl
  capped_pin (pin.Name name) = capped_word name.word
  capped_pin (pin.Prior n) = refl

  capped_pins : (ps : List RawPin) → map capped (map (pin_wire raw) ps) ≡ map (pin_wire raw) ps
  capped_pins [] = refl
  capped_pins (p ∷ ps) =
      ap (λ w. w ∷ map capped (map (pin_wire raw) ps)) (capped_pin p) ∙ ap (λ ws. pin_wire raw p ∷ ws) (capped_pins ps)

  capped_one : (g : RawGate) → capped_gate (resolved raw g) ≡ resolved raw g
  capped_one g =
      ap (λ (pins : List Wire). let new : gate.Gate = record { kind = g.kind; pins = pins } in new) (capped_pins g.pins)

  capped_each : (gs : List RawGate) → map (λ (g : RawGate). capped_gate (resolved raw g)) gs ≡ map (resolved raw) gs
  capped_each [] = refl
  capped_each (g ∷ gs) =
      ap (λ x. x ∷ map (λ (g : RawGate). capped_gate (resolved raw g)) gs) (capped_one g)
      ∙ ap (λ xs. resolved raw g ∷ xs) (capped_each gs)

  pub uncapped : map (λ (g : RawGate). capped_gate (resolved raw g)) raw.gates ≡ text_gates raw
  uncapped = capped_each raw.gates
