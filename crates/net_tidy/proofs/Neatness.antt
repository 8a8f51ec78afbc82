-- What forms say of the gates themselves.
use Rattle.std.proofs.Common.{◌≡◌, ℕ, zero, suc, ◌+◌, ◌*◌, ◌<◌, ◌≤◌, ◌⊎◌, inl, inr, Bool, List, [], ◌∷◌, ◌++◌}
use Rattle.std.proofs.Common.{length, map, Option, Some, None, refl, sym, ap, ◌∙◌, subst, arith, reverse}
use Rattle.std.specs.Prelude.{slice_get, IsTrue}
use Rattle.std.specs.Option.{option_map}
use Rattle.std.proofs.lemmas.Option.{same_Some, slice_get-map}
use Rattle.std.proofs.lemmas.Bool.{false≢true}
use Rattle.net_core.specs.declared.gate.Wire.{Wire}
use Rattle.net_core.specs.declared.gate.Wire.TheVariants as wire
use Rattle.net_core.specs.declared.gate.GateKind.{GateKind}
use Rattle.net_core.specs.declared.gate.GateKind.TheVariants as kinds
use Rattle.net_core.specs.declared.gate.Gate as gate
use Rattle.net_core.specs.declared.netlist.Output.{Output}
use Rattle.net_core.specs.Circuits.{HasItsPins, IsBuilt, IsPlain, IsThere, is_plain_kind}
use Rattle.net_core.specs.Building.{buffer_of, gate_input_pins, input_pin, input_pins}
use Rattle.net_core.specs.Unread.{ReadsNone}
use Rattle.net_tidy.specs.declared.form.Joint.{Joint}
use Rattle.net_tidy.specs.declared.form.Joint.TheVariants.{All, Any}
use Rattle.net_tidy.specs.declared.form.Form.{Form}
use Rattle.net_tidy.specs.declared.form.Form.TheVariants.{Same, Not, Join}
use Rattle.net_tidy.specs.Forms.{form_at, form_of, form_of_one, form_of_two, form_pins, gate_form, IsConst, IsTight}
use Rattle.net_tidy.specs.inner.Made.{AllFit, HasNeatForms}
use Rattle.net_tidy.specs.Tidy.{IsNeat}
use Rattle.net_tidy.proofs.Formed.{pins_of_form}
use Rattle.net_tidy.proofs.Pooled.{plain_has_form}

-- ---- neat gates

some_form : (o : Option Form) → (o ≡ None → ⊥) → (f : Form) × (o ≡ Some f)
some_form None h = absurd (h refl)
some_form (Some f) h = (f, refl)

plain_form : (kind : GateKind) (pins : List Wire) → IsPlain (record { kind = kind; pins = pins })
    → HasItsPins kind (length pins) → (f : Form) × (form_of kind pins ≡ Some f)
plain_form kind pins plain has = some_form (form_of kind pins) (plain_has_form kind pins plain has)

no_constant : (f : Form) → IsTight f → (k : ℕ) (b : Bool) → slice_get (form_pins f) k ≡ Some (wire.Const b) → ⊥
no_constant (Same a) tight k b e = absurd tight
no_constant (Not a) tight zero b e = tight (subst IsConst (sym (same_Some a (wire.Const b) e)) tt)
no_constant (Not a) tight (suc k) b e = absurd (cc)
no_constant (Join j x y) tight zero b e = tight.0 (subst IsConst (sym (same_Some x (wire.Const b) e)) tt)
no_constant (Join j x y) tight (suc zero) b e = tight.1 (subst IsConst (sym (same_Some y (wire.Const b) e)) tt)
no_constant (Join j x y) tight (suc (suc k)) b e = absurd (cc)

one_not : (kind : GateKind) (a : Wire) → IsTrue (is_plain_kind kind)
    → ((f : Form) → form_of_one kind a ≡ Some f → IsTight f) → kind ≡ kinds.Not
one_not kinds.Buf a plain tight = absurd (tight (Same a) refl)
one_not kinds.Not a plain tight = refl
one_not kinds.And a plain tight = absurd (tight (Same a) refl)
one_not kinds.Or a plain tight = absurd (tight (Same a) refl)
one_not kinds.Nand a plain tight = absurd (false≢true plain)
one_not kinds.Nor a plain tight = absurd (false≢true plain)
one_not kinds.Xor a plain tight = absurd (false≢true plain)
one_not kinds.Xnor a plain tight = absurd (false≢true plain)

single_not : (kind : GateKind) (pins : List Wire) → IsTrue (is_plain_kind kind)
    → ((f : Form) → form_of kind pins ≡ Some f → IsTight f) → length pins ≡ 1 → kind ≡ kinds.Not
single_not kind [] plain tight one = absurd (omega (arith, one))
single_not kind (a ∷ []) plain tight one = one_not kind a plain tight
single_not kind (a ∷ b ∷ rest) plain tight one = absurd (omega (arith, one))

never_twice : (kind : GateKind) (w : Wire) → IsTrue (is_plain_kind kind) → HasItsPins kind 2
    → ((f : Form) → form_of_two kind w w ≡ Some f → IsTight f) → ⊥
never_twice kinds.Buf w plain has tight = absurd (omega (arith, has))
never_twice kinds.Not w plain has tight = absurd (omega (arith, has))
never_twice kinds.And w plain has tight = (tight (Join All w w) refl).2 refl
never_twice kinds.Or w plain has tight = (tight (Join Any w w) refl).2 refl
never_twice kinds.Nand w plain has tight = absurd (false≢true plain)
never_twice kinds.Nor w plain has tight = absurd (false≢true plain)
never_twice kinds.Xor w plain has tight = absurd (false≢true plain)
never_twice kinds.Xnor w plain has tight = absurd (false≢true plain)

-- the form of a gate with the pins of another, turned
record IsTurned (kind : GateKind) (pins : List Wire) (f : Form) : Type 0 where
  joint : Joint
  first : Wire
  second : Wire
  is : f ≡ Join joint first second
  turned : form_of kind pins ≡ Some (Join joint second first)

two_turned : (kind : GateKind) (a b : Wire) (f : Form) → form_of_two kind b a ≡ Some f → IsTurned kind (a ∷ b ∷ []) f
two_turned kinds.Buf a b f e = absurd (cc)
two_turned kinds.Not a b f e = absurd (cc)
two_turned kinds.And a b f e =
    record { joint = All; first = b; second = a; is = sym (same_Some (Join All b a) f e); turned = refl }
two_turned kinds.Or a b f e =
    record { joint = Any; first = b; second = a; is = sym (same_Some (Join Any b a) f e); turned = refl }
two_turned kinds.Nand a b f e = absurd (cc)
two_turned kinds.Nor a b f e = absurd (cc)
two_turned kinds.Xor a b f e = absurd (cc)
two_turned kinds.Xnor a b f e = absurd (cc)

turned_form : (kind : GateKind) (ps qs : List Wire) (f : Form) → length qs ≤ 2 → form_of kind ps ≡ Some f
    → ps ≡ reverse qs → (form_of kind qs ≡ Some f) ⊎ IsTurned kind qs f
turned_form kind ps [] f few e same = inl (ap (form_of kind) (sym same) ∙ e)
turned_form kind ps (a ∷ []) f few e same = inl (ap (form_of kind) (sym same) ∙ e)
turned_form kind ps (a ∷ b ∷ []) f few e same = inr (two_turned kind a b f (ap (form_of kind) (sym same) ∙ e))
turned_form kind ps (a ∷ b ∷ c ∷ rest) f few e same = absurd (omega (arith, few))

form_again_at : (gates : List gate.Gate) (n : ℕ) (g : gate.Gate) (f : Form) → slice_get gates n ≡ Some g
    → form_of g.kind g.pins ≡ Some f → form_at gates (wire.Gate n) ≡ Some f
form_again_at gates n g f at e = ap gate_form at ∙ e

pub neat_gates : (i r : ℕ) (gates : List gate.Gate) → AllFit i r gates → HasNeatForms gates → IsNeat gates
neat_gates i r gates fit neat = record {
  constants = λ n g at plain k b e.
      let made = plain_form g.kind g.pins plain (fit.each n g at).count in
      no_constant made.0 (neat.tight made.0 n (form_again_at gates n g made.0 at made.1)) k b
      (ap (λ (ws : List Wire). slice_get ws k) (pins_of_form g.kind g.pins made.0 made.1) ∙ e);
  single = λ n g at plain one.
      single_not g.kind g.pins plain.kind (λ f e. neat.tight f n (form_again_at gates n g f at e)) one;
  different = λ n g at plain w same.
      never_twice g.kind w plain.kind
      (subst (λ (ws : List Wire). HasItsPins g.kind (length ws)) same (fit.each n g at).count)
      (λ f e. neat.tight f n (form_again_at gates n g f at (ap (form_of g.kind) same ∙ e)));
  once = λ m n g h at at' plain plain' alike same.
      let made = plain_form g.kind g.pins plain (fit.each m g at).count in
      let formed : form_of h.kind g.pins ≡ Some made.0 = ap (λ k. form_of k g.pins) (sym alike) ∙ made.1 in
      let first = form_again_at gates m g made.0 at made.1 in
      elim same [
        | inl e ↦ neat.once made.0 m n first (form_again_at gates n h made.0 at' (ap (form_of h.kind) (sym e) ∙ formed))
        | inr e ↦ elim (turned_form h.kind g.pins h.pins made.0 plain'.pins formed e) [
          | inl e' ↦ neat.once made.0 m n first (form_again_at gates n h made.0 at' e')
          | inr t ↦
              neat.turned t.joint t.first t.second m n (first ∙ ap Some t.is)
              (form_again_at gates n h (Join t.joint t.second t.first) at' t.turned)
        ]
      ];
}

-- ---- gates behind others

pub at_joined : {X : Type 0} (xs ys : List X) (n : ℕ) (x : X) → slice_get (xs ++ ys) n ≡ Some x
    → (slice_get xs n ≡ Some x) ⊎ ((k : ℕ) × (slice_get ys k ≡ Some x))
at_joined [] ys n x e = inr (n, e)
at_joined (y ∷ xs) ys zero x e = inl e
at_joined (y ∷ xs) ys (suc n) x e = at_joined xs ys n x e

buffered : (o : Option Wire) (g : gate.Gate) → option_map buffer_of o ≡ Some g
    → (w : Wire) × (o ≡ Some w) × (buffer_of w ≡ g)
buffered None g e = absurd (cc)
buffered (Some w) g e = (w, refl, same_Some (buffer_of w) g e)

-- the pin of a buffer of one of the wires
pub buffer_pin : (ws : List Wire) (n : ℕ) (g : gate.Gate) (k : ℕ) (w : Wire) → slice_get (map buffer_of ws) n ≡ Some g
    → slice_get g.pins k ≡ Some w → slice_get ws n ≡ Some w
buffer_pin ws n g k w at pin =
    let made = buffered (slice_get ws n) g (sym (slice_get-map buffer_of ws n) ∙ at) in
    made.1 ∙ only made.0 k (ap (λ (x : gate.Gate). slice_get x.pins k) made.2 ∙ pin)
  where
    only : (v : Wire) (k : ℕ) → slice_get (v ∷ []) k ≡ Some w → Some v ≡ Some w
    only v zero e = e
    only v (suc k) e = absurd (cc)

-- outputs whose gates stand behind n gates show none of these
pub reads_none : (i r n : ℕ) (outputs : List Output) (w : Wire)
    → ((k : ℕ) (o : Output) → slice_get outputs k ≡ Some o → o.gate ≡ n + k) → IsThere i r n w → ReadsNone outputs w
reads_none i r n outputs w driven there = record {
  each = λ k o at e.
      let low : o.gate < n = subst (IsThere i r n) e there in
      let is = driven k o at in
      absurd (omega (arith, low, is));
}

-- ---- pins that are inputs

pin_few : (w : Wire) → input_pin w ≤ 1
pin_few (wire.Const b) = omega arith
pin_few wire.Reset = omega arith
pin_few (wire.Input n) = omega arith
pin_few (wire.Reg n) = omega arith
pin_few (wire.Gate n) = omega arith

pub pins_few : (ws : List Wire) → input_pins ws ≤ length ws
pins_few [] = omega arith
pins_few (w ∷ ws) = let first = pin_few w in let rest = pins_few ws in omega (arith, first, rest)

pub gate_pins_few : (gates : List gate.Gate) → IsBuilt gates → gate_input_pins gates ≤ 2 * length gates
gate_pins_few [] built = omega arith
gate_pins_few (g ∷ gates) built =
    let first = pins_few g.pins in
    let two = (built.each 0 g refl).pins in
    let rest = gate_pins_few gates (record { each = λ n x at. built.each (suc n) x at }) in
    omega (arith, first, two, rest)

pub buffer_pins_few : (ws : List Wire) → gate_input_pins (map buffer_of ws) ≤ length ws
buffer_pins_few [] = omega arith
buffer_pins_few (w ∷ ws) = let first = pin_few w in let rest = buffer_pins_few ws in omega (arith, first, rest)

pub gate_pins_joined : (gs hs : List gate.Gate)
    → gate_input_pins (gs ++ hs) ≡ gate_input_pins gs + gate_input_pins hs
gate_pins_joined [] hs = omega arith
gate_pins_joined (g ∷ gs) hs = let rest = gate_pins_joined gs hs in omega (arith, rest)
