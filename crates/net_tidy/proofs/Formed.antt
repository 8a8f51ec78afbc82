-- What a gate's form says of its value and its pins.
use Rattle.std.proofs.Common.{◌≡◌, ℕ, Bool, true, false, ◌&&◌, ◌||◌, List, [], ◌∷◌}
use Rattle.std.proofs.Common.{length, Option, Some, None, refl, sym, ap, ◌∙◌, subst, arith}
use Rattle.std.specs.Prelude.{slice_get}
use Rattle.std.proofs.lemmas.Option.{same_Some, slice_get_within}
use Rattle.net_core.specs.declared.gate.Wire.{Wire}
use Rattle.net_core.specs.declared.gate.Wire.TheVariants as wire
use Rattle.net_core.specs.declared.gate.GateKind.{GateKind}
use Rattle.net_core.specs.declared.gate.GateKind.TheVariants as kinds
use Rattle.net_core.specs.declared.gate.Gate as gate
use Rattle.net_core.specs.Rows.{Row, IsRow, value, output_of}
use Rattle.net_core.specs.Circuits.{AllThere, IsThere}
use Rattle.net_core.proofs.Growth.{two_and, two_or, one_not}
use Rattle.net_core.proofs.Invariant.{there_more}
use Rattle.net_tidy.specs.declared.form.Joint.TheVariants.{All, Any}
use Rattle.net_tidy.specs.declared.form.Form.{Form}
use Rattle.net_tidy.specs.declared.form.Form.TheVariants.{Same, Not, Join}
use Rattle.net_tidy.specs.Forms.{form_value, form_of, form_of_one, form_of_two, form_pins, form_kind, form_at}
use Rattle.net_tidy.specs.Forms.{gate_form}
use Rattle.net_tidy.specs.inner.Made.{AllFit}

-- ---- forms of gates

and_true : (b : Bool) → (b && true) ≡ b
and_true true = refl
and_true false = refl

or_false : (b : Bool) → (b || false) ≡ b
or_false true = refl
or_false false = refl

one_means : (row : Row) (kind : GateKind) (a : Wire) (f : Form) → form_of_one kind a ≡ Some f
    → output_of row kind (a ∷ []) ≡ form_value row f
one_means row kinds.Buf a f e = and_true (value row a) ∙ ap (form_value row) (same_Some (Same a) f e)
one_means row kinds.Not a f e = one_not (value row a) ∙ ap (form_value row) (same_Some (Not a) f e)
one_means row kinds.And a f e = and_true (value row a) ∙ ap (form_value row) (same_Some (Same a) f e)
one_means row kinds.Or a f e = or_false (value row a) ∙ ap (form_value row) (same_Some (Same a) f e)
one_means row kinds.Nand a f e = absurd (cc)
one_means row kinds.Nor a f e = absurd (cc)
one_means row kinds.Xor a f e = absurd (cc)
one_means row kinds.Xnor a f e = absurd (cc)

two_mean : (row : Row) (kind : GateKind) (a b : Wire) (f : Form) → form_of_two kind a b ≡ Some f
    → output_of row kind (a ∷ b ∷ []) ≡ form_value row f
two_mean row kinds.Buf a b f e = absurd (cc)
two_mean row kinds.Not a b f e = absurd (cc)
two_mean row kinds.And a b f e =
    two_and (value row a) (value row b) ∙ ap (form_value row) (same_Some (Join All a b) f e)
two_mean row kinds.Or a b f e =
    two_or (value row a) (value row b) ∙ ap (form_value row) (same_Some (Join Any a b) f e)
two_mean row kinds.Nand a b f e = absurd (cc)
two_mean row kinds.Nor a b f e = absurd (cc)
two_mean row kinds.Xor a b f e = absurd (cc)
two_mean row kinds.Xnor a b f e = absurd (cc)

pub form_means : (row : Row) (kind : GateKind) (pins : List Wire) (f : Form) → form_of kind pins ≡ Some f
    → output_of row kind pins ≡ form_value row f
form_means row kind [] f e = absurd (cc)
form_means row kind (a ∷ []) f e = one_means row kind a f e
form_means row kind (a ∷ b ∷ []) f e = two_mean row kind a b f e
form_means row kind (a ∷ b ∷ c ∷ rest) f e = absurd (cc)

one_pins : (kind : GateKind) (a : Wire) (f : Form) → form_of_one kind a ≡ Some f → form_pins f ≡ a ∷ []
one_pins kinds.Buf a f e = ap form_pins (sym (same_Some (Same a) f e))
one_pins kinds.Not a f e = ap form_pins (sym (same_Some (Not a) f e))
one_pins kinds.And a f e = ap form_pins (sym (same_Some (Same a) f e))
one_pins kinds.Or a f e = ap form_pins (sym (same_Some (Same a) f e))
one_pins kinds.Nand a f e = absurd (cc)
one_pins kinds.Nor a f e = absurd (cc)
one_pins kinds.Xor a f e = absurd (cc)
one_pins kinds.Xnor a f e = absurd (cc)

two_pins : (kind : GateKind) (a b : Wire) (f : Form) → form_of_two kind a b ≡ Some f → form_pins f ≡ a ∷ b ∷ []
two_pins kinds.Buf a b f e = absurd (cc)
two_pins kinds.Not a b f e = absurd (cc)
two_pins kinds.And a b f e = ap form_pins (sym (same_Some (Join All a b) f e))
two_pins kinds.Or a b f e = ap form_pins (sym (same_Some (Join Any a b) f e))
two_pins kinds.Nand a b f e = absurd (cc)
two_pins kinds.Nor a b f e = absurd (cc)
two_pins kinds.Xor a b f e = absurd (cc)
two_pins kinds.Xnor a b f e = absurd (cc)

pub pins_of_form : (kind : GateKind) (pins : List Wire) (f : Form) → form_of kind pins ≡ Some f → form_pins f ≡ pins
pins_of_form kind [] f e = absurd (cc)
pins_of_form kind (a ∷ []) f e = one_pins kind a f e
pins_of_form kind (a ∷ b ∷ []) f e = two_pins kind a b f e
pins_of_form kind (a ∷ b ∷ c ∷ rest) f e = absurd (cc)

pub form_again : (f : Form) → form_of (form_kind f) (form_pins f) ≡ Some f
form_again (Same a) = refl
form_again (Not a) = refl
form_again (Join All a b) = refl
form_again (Join Any a b) = refl

-- the gate that has a form
some_gate : (gates : List gate.Gate) (n : ℕ) (o : Option gate.Gate) (f : Form) → slice_get gates n ≡ o
    → gate_form o ≡ Some f → (g : gate.Gate) × (slice_get gates n ≡ Some g) × (form_of g.kind g.pins ≡ Some f)
some_gate gates n None f at e = absurd (cc)
some_gate gates n (Some g) f at e = (g, at, e)

pub formed_gate : (gates : List gate.Gate) (n : ℕ) (f : Form) → form_at gates (wire.Gate n) ≡ Some f
    → (g : gate.Gate) × (slice_get gates n ≡ Some g) × (form_of g.kind g.pins ≡ Some f)
formed_gate gates n f e = some_gate gates n (slice_get gates n) f refl e

pub value_at_form : (gates : List gate.Gate) (w : Wire) (f : Form) (row : Row) → form_at gates w ≡ Some f
    → IsRow gates row → value row w ≡ form_value row f
value_at_form gates (wire.Const b) f row e is = absurd (cc)
value_at_form gates wire.Reset f row e is = absurd (cc)
value_at_form gates (wire.Input n) f row e is = absurd (cc)
value_at_form gates (wire.Reg n) f row e is = absurd (cc)
value_at_form gates (wire.Gate n) f row e is =
    let made = formed_gate gates n f e in
    let g = made.0 in
    is.each n g made.1 ∙ form_means row g.kind g.pins f made.2

-- the pins of a form that stands are there
pub pins_there : (i r : ℕ) (gates : List gate.Gate) (w : Wire) (f : Form) → form_at gates w ≡ Some f → AllFit i r gates
    → AllThere i r (length gates) (form_pins f)
pins_there i r gates (wire.Const b) f e fit = absurd (cc)
pins_there i r gates wire.Reset f e fit = absurd (cc)
pins_there i r gates (wire.Input n) f e fit = absurd (cc)
pins_there i r gates (wire.Reg n) f e fit = absurd (cc)
pins_there i r gates (wire.Gate n) f e fit =
    let made = formed_gate gates n f e in
    let g = made.0 in
    let low = slice_get_within gates n g made.1 in
    subst (AllThere i r (length gates)) (sym (pins_of_form g.kind g.pins f made.2))
    (record {
      each = λ k w at.
          there_more i r r n (length gates) w (omega arith) (omega (arith, low))
          ((fit.each n g made.1).there.each k w at);
    })

pub gate_there : (i r : ℕ) (gates : List gate.Gate) (n : ℕ) (f : Form) → form_at gates (wire.Gate n) ≡ Some f
    → IsThere i r (length gates) (wire.Gate n)
gate_there i r gates n f e = let made = formed_gate gates n f e in slice_get_within gates n made.0 made.1
