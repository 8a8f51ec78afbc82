-- What is kept is as neat as it was.
use Rattle.std.proofs.Common.{◌≡◌, ℕ, ◌<◌, Bool, List, [], ◌∷◌, length, map}
use Rattle.std.proofs.Common.{Option, Some, None, refl, sym, ap, ◌∙◌, subst, arith}
use Rattle.std.specs.Prelude.{slice_get, IsTrue}
use Rattle.std.specs.Option.{option_map}
use Rattle.std.proofs.lemmas.Option.{same_Some}
use Rattle.std.proofs.lemmas.List.{length-map}
use Rattle.net_core.specs.declared.gate.Wire.{Wire}
use Rattle.net_core.specs.declared.gate.Wire.TheVariants as wire
use Rattle.net_core.specs.declared.gate.GateKind.{GateKind}
use Rattle.net_core.specs.declared.gate.GateKind.TheVariants as kinds
use Rattle.net_core.specs.declared.gate.Gate as gate
use Rattle.net_core.specs.Circuits.{IsBuilt, IsThere, is_plain_kind, wire_at}
use Rattle.net_core.proofs.Invariant.{there_more}
use Rattle.net_tidy.specs.declared.form.Joint.{Joint}
use Rattle.net_tidy.specs.declared.form.Form.{Form}
use Rattle.net_tidy.specs.declared.form.Form.TheVariants.{Same, Not, Join}
use Rattle.net_tidy.specs.Forms.{form_of, form_of_one, form_of_two, form_pins, form_at, gate_form, IsConst, IsTight}
use Rattle.net_tidy.specs.inner.Made.{AllFit, HasNeatForms}
use Rattle.net_tidy.specs.inner.Images.{image}
use Rattle.net_tidy.specs.inner.Marks.{IsClosedOver, IsMarked, SweepsTo}
use Rattle.net_tidy.proofs.Formed.{formed_gate, pins_of_form}

abbrev renamed : (Wire → Wire) → Form → Form
renamed h (Same a) = Same (h a)
renamed h (Not a) = Not (h a)
renamed h (Join j a b) = Join j (h a) (h b)

one_renamed : (h : Wire → Wire) (kind : GateKind) (a : Wire)
    → form_of_one kind (h a) ≡ option_map (renamed h) (form_of_one kind a)
one_renamed h kinds.Buf a = refl
one_renamed h kinds.Not a = refl
one_renamed h kinds.And a = refl
one_renamed h kinds.Or a = refl
one_renamed h kinds.Nand a = refl
one_renamed h kinds.Nor a = refl
one_renamed h kinds.Xor a = refl
one_renamed h kinds.Xnor a = refl

two_renamed : (h : Wire → Wire) (kind : GateKind) (a b : Wire)
    → form_of_two kind (h a) (h b) ≡ option_map (renamed h) (form_of_two kind a b)
two_renamed h kinds.Buf a b = refl
two_renamed h kinds.Not a b = refl
two_renamed h kinds.And a b = refl
two_renamed h kinds.Or a b = refl
two_renamed h kinds.Nand a b = refl
two_renamed h kinds.Nor a b = refl
two_renamed h kinds.Xor a b = refl
two_renamed h kinds.Xnor a b = refl

form_renamed : (h : Wire → Wire) (kind : GateKind) (pins : List Wire)
    → form_of kind (map h pins) ≡ option_map (renamed h) (form_of kind pins)
form_renamed h kind [] = refl
form_renamed h kind (a ∷ []) = one_renamed h kind a
form_renamed h kind (a ∷ b ∷ []) = two_renamed h kind a b
form_renamed h kind (a ∷ b ∷ c ∷ rest) = refl

some_mapped : (h : Wire → Wire) (o : Option Form) (f : Form) → option_map (renamed h) o ≡ Some f
    → (g : Form) × (o ≡ Some g) × (renamed h g ≡ f)
some_mapped h None f e = absurd (cc)
some_mapped h (Some g) f e = (g, refl, same_Some (renamed h g) f e)

-- ---- places of marked wires

-- the wire is there, and is a gate only if it has a mark
abbrev IsHeld : ℕ → ℕ → ℕ → List Bool → Wire → Type 0
IsHeld i r n marks w = IsThere i r n w × IsMarked marks w

clear_image : (i r n : ℕ) (gates : List gate.Gate) (marks : List Bool) (kept : List gate.Gate) (places : List Wire)
    → SweepsTo i r gates marks n kept places → (w : Wire) → IsHeld i r n marks w → IsConst (image places w) → IsConst w
clear_image i r n gates marks kept places s (wire.Const b) held c = tt
clear_image i r n gates marks kept places s wire.Reset held c = c
clear_image i r n gates marks kept places s (wire.Input k) held c = c
clear_image i r n gates marks kept places s (wire.Reg k) held c = c
clear_image i r n gates marks kept places s (wire.Gate k) held c =
    let place = s.placed k held.0 held.1 in absurd (subst IsConst place.1 c)

same_image : (i r n : ℕ) (gates : List gate.Gate) (marks : List Bool) (kept : List gate.Gate) (places : List Wire)
    → SweepsTo i r gates marks n kept places → (v w : Wire) → IsHeld i r n marks v → IsHeld i r n marks w
    → image places v ≡ image places w → v ≡ w
same_image i r n gates marks kept places s (wire.Gate j) (wire.Gate k) p q e =
    let place = s.placed j p.0 p.1 in
    ap wire.Gate (s.once j k place.0 p.0 q.0 place.1 (sym e ∙ place.1))
same_image i r n gates marks kept places s (wire.Gate j) (wire.Const b) p q e =
    let place = s.placed j p.0 p.1 in let f = sym place.1 ∙ e in absurd (cc)
same_image i r n gates marks kept places s (wire.Gate j) wire.Reset p q e =
    let place = s.placed j p.0 p.1 in let f = sym place.1 ∙ e in absurd (cc)
same_image i r n gates marks kept places s (wire.Gate j) (wire.Input k) p q e =
    let place = s.placed j p.0 p.1 in let f = sym place.1 ∙ e in absurd (cc)
same_image i r n gates marks kept places s (wire.Gate j) (wire.Reg k) p q e =
    let place = s.placed j p.0 p.1 in let f = sym place.1 ∙ e in absurd (cc)
same_image i r n gates marks kept places s (wire.Const b) (wire.Gate k) p q e =
    let place = s.placed k q.0 q.1 in let f = e ∙ place.1 in absurd (cc)
same_image i r n gates marks kept places s wire.Reset (wire.Gate k) p q e =
    let place = s.placed k q.0 q.1 in let f = e ∙ place.1 in absurd (cc)
same_image i r n gates marks kept places s (wire.Input j) (wire.Gate k) p q e =
    let place = s.placed k q.0 q.1 in let f = e ∙ place.1 in absurd (cc)
same_image i r n gates marks kept places s (wire.Reg j) (wire.Gate k) p q e =
    let place = s.placed k q.0 q.1 in let f = e ∙ place.1 in absurd (cc)
same_image i r n gates marks kept places s (wire.Const b) (wire.Const c) p q e = e
same_image i r n gates marks kept places s (wire.Const b) wire.Reset p q e = e
same_image i r n gates marks kept places s (wire.Const b) (wire.Input k) p q e = e
same_image i r n gates marks kept places s (wire.Const b) (wire.Reg k) p q e = e
same_image i r n gates marks kept places s wire.Reset (wire.Const c) p q e = e
same_image i r n gates marks kept places s wire.Reset wire.Reset p q e = e
same_image i r n gates marks kept places s wire.Reset (wire.Input k) p q e = e
same_image i r n gates marks kept places s wire.Reset (wire.Reg k) p q e = e
same_image i r n gates marks kept places s (wire.Input j) (wire.Const c) p q e = e
same_image i r n gates marks kept places s (wire.Input j) wire.Reset p q e = e
same_image i r n gates marks kept places s (wire.Input j) (wire.Input k) p q e = e
same_image i r n gates marks kept places s (wire.Input j) (wire.Reg k) p q e = e
same_image i r n gates marks kept places s (wire.Reg j) (wire.Const c) p q e = e
same_image i r n gates marks kept places s (wire.Reg j) wire.Reset p q e = e
same_image i r n gates marks kept places s (wire.Reg j) (wire.Input k) p q e = e
same_image i r n gates marks kept places s (wire.Reg j) (wire.Reg k) p q e = e

-- ---- forms of kept gates

tight_renamed : (i r n : ℕ) (gates : List gate.Gate) (marks : List Bool) (kept : List gate.Gate) (places : List Wire)
    → SweepsTo i r gates marks n kept places → (f : Form)
    → ((k : ℕ) (w : Wire) → slice_get (form_pins f) k ≡ Some w → IsHeld i r n marks w) → IsTight f
    → IsTight (renamed (image places) f)
tight_renamed i r n gates marks kept places s (Same a) held tight = tight
tight_renamed i r n gates marks kept places s (Not a) held tight =
    λ c. tight (clear_image i r n gates marks kept places s a (held 0 a refl) c)
tight_renamed i r n gates marks kept places s (Join j a b) held tight = (
  λ c. tight.0 (clear_image i r n gates marks kept places s a (held 0 a refl) c),
  λ c. tight.1 (clear_image i r n gates marks kept places s b (held 1 b refl) c),
  λ e. tight.2 (same_image i r n gates marks kept places s a b (held 0 a refl) (held 1 b refl) e),
)

same_renamed : (i r n : ℕ) (gates : List gate.Gate) (marks : List Bool) (kept : List gate.Gate) (places : List Wire)
    → SweepsTo i r gates marks n kept places → (f g : Form)
    → ((k : ℕ) (w : Wire) → slice_get (form_pins f) k ≡ Some w → IsHeld i r n marks w)
    → ((k : ℕ) (w : Wire) → slice_get (form_pins g) k ≡ Some w → IsHeld i r n marks w)
    → renamed (image places) f ≡ renamed (image places) g → f ≡ g
same_renamed i r n gates marks kept places s (Same a) (Same b) p q e =
    ap Same (same_image i r n gates marks kept places s a b (p 0 a refl) (q 0 b refl) (cc))
same_renamed i r n gates marks kept places s (Same a) (Not b) p q e = absurd (cc)
same_renamed i r n gates marks kept places s (Same a) (Join k b c) p q e = absurd (cc)
same_renamed i r n gates marks kept places s (Not a) (Same b) p q e = absurd (cc)
same_renamed i r n gates marks kept places s (Not a) (Not b) p q e =
    ap Not (same_image i r n gates marks kept places s a b (p 0 a refl) (q 0 b refl) (cc))
same_renamed i r n gates marks kept places s (Not a) (Join k b c) p q e = absurd (cc)
same_renamed i r n gates marks kept places s (Join j a b) (Same c) p q e = absurd (cc)
same_renamed i r n gates marks kept places s (Join j a b) (Not c) p q e = absurd (cc)
same_renamed i r n gates marks kept places s (Join j a b) (Join k c d) p q e =
    let alike : j ≡ k = cc in
    let first = same_image i r n gates marks kept places s a c (p 0 a refl) (q 0 c refl) (cc) in
    let second = same_image i r n gates marks kept places s b d (p 1 b refl) (q 1 d refl) (cc) in
    ap (λ x. Join x a b) alike ∙ (ap (λ x. Join k x b) first ∙ ap (λ x. Join k c x) second)

-- the gate of which a kept one is made has this form
record OldForm (i r : ℕ) (gates : List gate.Gate) (marks : List Bool) (places : List Wire) (m : ℕ) (f : Form)
    : Type 0 where
  pub number : ℕ
  pub below : number < length gates
  pub place : wire_at places number ≡ wire.Gate m
  pub form : Form
  pub is : form_at gates (wire.Gate number) ≡ Some form
  pub same : renamed (image places) form ≡ f
  pub held : (k : ℕ) (w : Wire) → slice_get (form_pins form) k ≡ Some w → IsHeld i r (length gates) marks w

old_form : (i r : ℕ) (gates : List gate.Gate) (marks : List Bool) (kept : List gate.Gate) (places : List Wire) (m : ℕ)
    (f : Form) → AllFit i r gates → IsClosedOver gates marks (length gates)
    → SweepsTo i r gates marks (length gates) kept places → form_at kept (wire.Gate m) ≡ Some f
    → OldForm i r gates marks places m f
old_form i r gates marks kept places m f fit closed s e =
    let made = formed_gate kept m f e in
    let x = made.0 in
    let from = s.origin m x made.1 in
    let g = from.source in
    let low = from.below in
    let formed : form_of g.kind (map (image places) g.pins) ≡ Some f =
    ap (λ k. form_of k (map (image places) g.pins)) (sym from.kind)
    ∙ (ap (form_of x.kind) (sym from.pins) ∙ made.2) in
    let old = some_mapped (image places) (form_of g.kind g.pins) f
    (sym (form_renamed (image places) g.kind g.pins) ∙ formed) in
    record {
      number = from.number;
      below = from.below;
      place = from.place;
      form = old.0;
      is = ap gate_form from.at ∙ old.1;
      same = old.2;
      held = λ k w at.
          let pin : slice_get g.pins k ≡ Some w =
          ap (λ (ws : List Wire). slice_get ws k) (sym (pins_of_form g.kind g.pins old.0 old.1)) ∙ at in (
            there_more i r r from.number (length gates) w (omega arith) (omega (arith, low))
                ((fit.each from.number g from.at).there.each k w pin),
            closed.each from.number g (omega arith) from.at from.marked k w pin,
          );
    }

turned_forms : (i r n : ℕ) (gates : List gate.Gate) (marks : List Bool) (kept : List gate.Gate) (places : List Wire)
    → SweepsTo i r gates marks n kept places → HasNeatForms gates → (j : Joint) (a b : Wire) (f g : Form) (m k : ℕ)
    → ((q : ℕ) (w : Wire) → slice_get (form_pins f) q ≡ Some w → IsHeld i r n marks w)
    → ((q : ℕ) (w : Wire) → slice_get (form_pins g) q ≡ Some w → IsHeld i r n marks w)
    → renamed (image places) f ≡ Join j a b → renamed (image places) g ≡ Join j b a
    → form_at gates (wire.Gate m) ≡ Some f → form_at gates (wire.Gate k) ≡ Some g → m ≡ k
turned_forms i r n gates marks kept places s neat j a b (Same x) g m k p q e e' at at' = absurd (cc)
turned_forms i r n gates marks kept places s neat j a b (Not x) g m k p q e e' at at' = absurd (cc)
turned_forms i r n gates marks kept places s neat j a b (Join l x y) (Same z) m k p q e e' at at' = absurd (cc)
turned_forms i r n gates marks kept places s neat j a b (Join l x y) (Not z) m k p q e e' at at' = absurd (cc)
turned_forms i r n gates marks kept places s neat j a b (Join l x y) (Join o z w) m k p q e e' at at' =
    let alike : o ≡ l = cc in
    let first : y ≡ z = same_image i r n gates marks kept places s y z (p 1 y refl) (q 0 z refl) (cc) in
    let second : x ≡ w = same_image i r n gates marks kept places s x w (p 0 x refl) (q 1 w refl) (cc) in
    neat.turned l x y m k at
    (at' ∙ (ap (λ v. Some (Join v z w)) alike
    ∙ (ap (λ v. Some (Join l v w)) (sym first) ∙ ap (λ v. Some (Join l y v)) (sym second))))

pub kept_neat : (i r : ℕ) (gates : List gate.Gate) (marks : List Bool) (kept : List gate.Gate) (places : List Wire)
    → AllFit i r gates → IsClosedOver gates marks (length gates)
    → SweepsTo i r gates marks (length gates) kept places → HasNeatForms gates → HasNeatForms kept
kept_neat i r gates marks kept places fit closed s neat = record {
  tight = λ f m e.
      let old = old_form i r gates marks kept places m f fit closed s e in
      subst IsTight old.same
      (tight_renamed i r (length gates) gates marks kept places s old.form old.held
      (neat.tight old.form old.number old.is));
  once = λ f m n e e'.
      let old = old_form i r gates marks kept places m f fit closed s e in
      let old' = old_form i r gates marks kept places n f fit closed s e' in
      let same = same_renamed i r (length gates) gates marks kept places s old.form old'.form old.held old'.held
      (old.same ∙ sym old'.same) in
      let number = neat.once old.form old.number old'.number old.is (old'.is ∙ ap Some (sym same)) in
      let place : wire.Gate m ≡ wire.Gate n = sym old.place ∙ (ap (wire_at places) number ∙ old'.place) in
      cc;
  turned = λ j a b m n e e'.
      let old = old_form i r gates marks kept places m (Join j a b) fit closed s e in
      let old' = old_form i r gates marks kept places n (Join j b a) fit closed s e' in
      let number = turned_forms i r (length gates) gates marks kept places s neat j a b old.form old'.form old.number
      old'.number old.held old'.held old.same old'.same old.is old'.is in
      let place : wire.Gate m ≡ wire.Gate n = sym old.place ∙ (ap (wire_at places) number ∙ old'.place) in
      cc;
}

pub kept_built : (i r : ℕ) (gates : List gate.Gate) (marks : List Bool) (kept : List gate.Gate) (places : List Wire)
    (n : ℕ) → SweepsTo i r gates marks n kept places → IsBuilt gates → IsBuilt kept
kept_built i r gates marks kept places n s built = record {
  each = λ m x e.
      let from = s.origin m x e in
      let plain = built.each from.number from.source from.at in
      let few = plain.pins in
      record {
        kind = subst (λ k. IsTrue (is_plain_kind k)) (sym from.kind) plain.kind;
        pins = omega (arith, few, ap length from.pins, length-map from.source.pins (image places));
      };
}
