-- The gates as the text has them.
use Rattle.std.proofs.Common.{◌≡◌, ℕ, zero, suc, ◌<◌, Bool, true, false, not, ◌&&◌, cond, List, [], ◌∷◌, ◌++◌}
use Rattle.std.proofs.Common.{length}
use Rattle.std.proofs.Common.{map, Option, Some, None, refl, sym, ap, ◌∙◌, arith}
use Rattle.std.specs.Prelude.{slice_get, unwrap_or}
use Rattle.std.specs.List.{position_from}
use Rattle.std.proofs.lemmas.Option.{same_Some, slice_get_within}
use Rattle.std.proofs.lemmas.List.{length-map}
use Rattle.net_core.specs.declared.gate.Wire.{Wire}
use Rattle.net_core.specs.declared.gate.Wire.TheVariants as wire
use Rattle.net_core.specs.declared.gate.Gate as gate
use Rattle.vlog_text.specs.declared.raw.RawGate.{RawGate}
use Rattle.vlog_text.specs.declared.raw.RawNetlist.{RawNetlist}
use Rattle.vlog_text.specs.declared.raw.RawPin.{RawPin}
use Rattle.vlog_text.specs.declared.raw.RawPin.TheVariants as pin
use Rattle.vlog_text.specs.Raw.{IsRaw}
use Rattle.vlog_text.specs.Words.{target_name}
use Rattle.vlog_text.specs.Orders.{is_among, is_settled, all_settled, can_be_taken, first_from, then_on, order_from}
use Rattle.vlog_text.specs.Orders.{order_of}
use Rattle.vlog_text.specs.Standing.{drives, driver, pin_wire, resolved, text_gates, the_order}
use Rattle.vlog_text.specs.Standing.{number_of, inputs, registers, is_plain_input, is_declared, is_input, is_reg}
use Rattle.vlog_order.specs.Named.{AllNamed}
use Rattle.vlog_names.specs.Numbers.{capped, capped_gate}
use Rattle.vlog_names.proofs.Standings.{position_within}
use Rattle.vlog_order.proofs.Placing.{order_there}

within_or : {X : Type 0} (p : X → Bool) (xs : List X) → 0 < length xs → unwrap_or (position_from p 0 xs) 0 < length xs
within_or p xs some = go (position_from p 0 xs) refl
  where
    go : (o : Option ℕ) → position_from p 0 xs ≡ o → unwrap_or o 0 < length xs
    go None e = some
    go (Some n) e = omega (arith, position_within p 0 xs n e)

-- ---- pins name gates that are there

gate_only : (a b c : Bool) (i r d m : ℕ)
    → capped (cond a (wire.Input i) (cond b wire.Reset (cond c (wire.Reg r) (wire.Gate d)))) ≡ wire.Gate m → m ≡ d
gate_only true b c i r d m e = cc
gate_only false true c i r d m e = cc
gate_only false false true i r d m e = cc
gate_only false false false i r d m e = cc

module _ (raw : RawNetlist) (is : IsRaw raw) where
  pin_there : (n : ℕ) (g : RawGate) (k : ℕ) (p : RawPin) (m : ℕ) → slice_get raw.gates n ≡ Some g
      → slice_get g.pins k ≡ Some p → capped (pin_wire raw p) ≡ wire.Gate m → m < length raw.gates
  pin_there n g k (pin.Const b) m at here e = cc
  pin_there n g k (pin.Name name) m at here e =
      let same : m ≡ driver raw name.word
      = gate_only (is_plain_input raw name.word) (is_declared raw is_input name.word)
      (is_declared raw is_reg name.word) (number_of (inputs raw) name.word) (number_of (registers raw) name.word)
      (driver raw name.word) m e in
      let within = slice_get_within raw.gates n g at in
      omega (arith, within_or (λ (g : RawGate). drives name.word (target_name g.target)) raw.gates (omega arith))
  pin_there n g k (pin.Prior j) m at here e =
      let same : j ≡ m = cc in
      let fits = (is.gates_fit n g at).pins k (pin.Prior j) here in
      let within = slice_get_within raw.gates n g at in
      omega (arith, fits.0)

  mapped_pin : (ps : List RawPin) (k m : ℕ) → slice_get (map capped (map (pin_wire raw) ps)) k ≡ Some (wire.Gate m)
      → (p : RawPin) × (slice_get ps k ≡ Some p) × (capped (pin_wire raw p) ≡ wire.Gate m)
  mapped_pin [] k m e = cc
  mapped_pin (p ∷ ps) zero m e = (p, refl, same_Some (capped (pin_wire raw p)) (wire.Gate m) e)
  mapped_pin (p ∷ ps) (suc k) m e = mapped_pin ps k m e

  mapped_gate : (gs : List RawGate) (n : ℕ) (g : gate.Gate)
      → slice_get (map (λ (g : RawGate). capped_gate (resolved raw g)) gs) n ≡ Some g
      → (x : RawGate) × (slice_get gs n ≡ Some x) × (capped_gate (resolved raw x) ≡ g)
  mapped_gate [] n g e = cc
  mapped_gate (x ∷ gs) zero g e = (x, refl, same_Some (capped_gate (resolved raw x)) g e)
  mapped_gate (x ∷ gs) (suc n) g e = mapped_gate gs n g e

  pub all_named : (count : ℕ) → count ≡ length raw.gates
      → AllNamed count (map (λ (g : RawGate). capped_gate (resolved raw g)) raw.gates)
  all_named count all = record {
    each = λ n g i m at pin_at.
        let x = mapped_gate raw.gates n g at in
        let p = mapped_pin x.0.pins i m (ap (λ (y : gate.Gate). slice_get y.pins i) x.2 ∙ pin_at) in
        omega (arith, pin_there n x.0 i p.0 m x.1 p.1 p.2);
  }

-- ---- the order is that of the text

settled_capped : (taken : ℕ → Bool) (w : Wire) → is_settled taken (capped w) ≡ is_settled taken w
settled_capped taken (wire.Const b) = refl
settled_capped taken wire.Reset = refl
settled_capped taken (wire.Input n) = refl
settled_capped taken (wire.Reg n) = refl
settled_capped taken (wire.Gate n) = refl

all_capped : (taken : ℕ → Bool) (ws : List Wire) → all_settled taken (map capped ws) ≡ all_settled taken ws
all_capped taken [] = refl
all_capped taken (w ∷ ws) =
    ap (λ b. b && all_settled taken (map capped ws)) (settled_capped taken w)
    ∙ ap (λ b. is_settled taken w && b) (all_capped taken ws)

first_capped : (taken : ℕ → Bool) (n : ℕ) (gs : List gate.Gate)
    → first_from taken n (map capped_gate gs) ≡ first_from taken n gs
first_capped taken n [] = refl
first_capped taken n (g ∷ gs) =
    ap (λ b. cond (not (taken n) && b) (Some n) (first_from taken (suc n) (map capped_gate gs)))
    (all_capped taken g.pins)
    ∙ ap (λ o. cond (can_be_taken taken n g.pins) (Some n) o) (first_capped taken (suc n) gs)

from_capped : (gates : List gate.Gate) (left : ℕ) (taken : List ℕ)
    → order_from (map capped_gate gates) left taken ≡ order_from gates left taken
from_capped gates zero taken = refl
from_capped gates (suc left) taken =
    ap (λ o. then_on o taken (λ n. order_from (map capped_gate gates) left (taken ++ n ∷ [])))
    (first_capped (is_among taken) zero gates)
    ∙ ap (λ (more : ℕ → List ℕ). then_on (first_from (is_among taken) zero gates) taken more)
    (λ i n. from_capped gates left (taken ++ n ∷ []) i)

twice : (raw : RawNetlist) (gs : List RawGate)
    → map (λ (g : RawGate). capped_gate (resolved raw g)) gs ≡ map capped_gate (map (resolved raw) gs)
twice raw [] = refl
twice raw (g ∷ gs) = ap (λ xs. capped_gate (resolved raw g) ∷ xs) (twice raw gs)

pub order_is : (raw : RawNetlist) (gates : List gate.Gate) (order : List ℕ)
    → gates ≡ map (λ (g : RawGate). capped_gate (resolved raw g)) raw.gates → order ≡ order_of gates
    → order ≡ the_order raw
order_is raw gates order e o =
    o ∙ ap (λ gs. order_of gs) (e ∙ twice raw raw.gates)
    ∙ ap (λ n. order_from (map capped_gate (text_gates raw)) n []) (length-map (text_gates raw) capped_gate)
    ∙ from_capped (text_gates raw) (length (text_gates raw)) []

pub order_below : (gates : List gate.Gate) (order : List ℕ) → order ≡ order_of gates
    → (i n : ℕ) → slice_get order i ≡ Some n → n < length gates
order_below gates order o i n e = order_there gates i n (ap (λ xs. slice_get xs i) (sym o) ∙ e)
