-- Equal keys are keys of one form.
use Rattle.std.proofs.Common.{◌≡◌, ℕ, true, false, refl, ap, ◌∙◌, arith}
use Rattle.std.specs.declared.cmp.Ordering.{Ordering}
use Rattle.std.specs.Ordering.{is_eq, nat_cmp, ordering_then}
use Rattle.std.specs.declared.cmp.Ordering.TheVariants.{Less, Equal, Greater}
use Rattle.std.proofs.lemmas.Bool.{false≢true}
use Rattle.std.proofs.lemmas.Cmp.{nat_cmp_total, tied_itself}
use Rattle.std.proofs.lemmas.Map.Lookups.{exact_unsigned}
use Rattle.net_core.specs.declared.gate.Wire.{Wire}
use Rattle.net_core.specs.declared.gate.Wire.TheVariants.{Const, Reset, Input, Reg, Gate}
use Rattle.net_tidy.specs.declared.form.Joint.{Joint}
use Rattle.net_tidy.specs.declared.form.Joint.TheVariants.{All, Any}
use Rattle.net_tidy.specs.declared.form.Form.{Form}
use Rattle.net_tidy.specs.declared.form.Form.TheVariants.{Same, Not, Join}
use Rattle.net_tidy.specs.declared.key.Key.{Key}
use Rattle.net_tidy.specs.Keys.{form_eq, form_key, key_cmp, wire_number}

is_equal : (o : Ordering) → is_eq o ≡ true → o ≡ Equal
is_equal Less e = absurd (false≢true e)
is_equal Equal e = refl
is_equal Greater e = absurd (false≢true e)

both_equal : (o p : Ordering) → is_eq (ordering_then o p) ≡ true → (is_eq o ≡ true) × (is_eq p ≡ true)
both_equal Less p e = absurd (false≢true e)
both_equal Equal p e = (refl, e)
both_equal Greater p e = absurd (false≢true e)

same_number : (m n : ℕ) → is_eq (nat_cmp m n) ≡ true → m ≡ n
same_number m n e = exact_unsigned m n (is_equal (nat_cmp m n) e)

record SameKey (x y : Key) : Type 0 where
  kind : x.kind ≡ y.kind
  first : x.first ≡ y.first
  second : x.second ≡ y.second

same_key : (x y : Key) → is_eq (key_cmp x y) ≡ true → SameKey x y
same_key x y e =
    let kind = both_equal (nat_cmp x.kind y.kind) _ e in
    let pins = both_equal (nat_cmp x.first y.first) (nat_cmp x.second y.second) kind.1 in
    record {
      kind = same_number x.kind y.kind kind.0;
      first = same_number x.first y.first pins.0;
      second = same_number x.second y.second pins.1;
    }

key_itself : (x : Key) → is_eq (key_cmp x x) ≡ true
key_itself x =
    let same = λ (n : ℕ). tied_itself nat_cmp_total n in rw (same x.kind, same x.first, same x.second)

pub form_itself : (f : Form) → form_eq f f ≡ true
form_itself f = key_itself (form_key f)

same_wire : (x y : Wire) → wire_number x ≡ wire_number y → x ≡ y
same_wire (Const false) (Const false) e = refl
same_wire (Const false) (Const true) e = absurd (omega (arith, e))
same_wire (Const false) Reset e = absurd (omega (arith, e))
same_wire (Const false) (Input n) e = absurd (omega (arith, e))
same_wire (Const false) (Reg n) e = absurd (omega (arith, e))
same_wire (Const false) (Gate n) e = absurd (omega (arith, e))
same_wire (Const true) (Const false) e = absurd (omega (arith, e))
same_wire (Const true) (Const true) e = refl
same_wire (Const true) Reset e = absurd (omega (arith, e))
same_wire (Const true) (Input n) e = absurd (omega (arith, e))
same_wire (Const true) (Reg n) e = absurd (omega (arith, e))
same_wire (Const true) (Gate n) e = absurd (omega (arith, e))
same_wire Reset (Const false) e = absurd (omega (arith, e))
same_wire Reset (Const true) e = absurd (omega (arith, e))
same_wire Reset Reset e = refl
same_wire Reset (Input n) e = absurd (omega (arith, e))
same_wire Reset (Reg n) e = absurd (omega (arith, e))
same_wire Reset (Gate n) e = absurd (omega (arith, e))
same_wire (Input m) (Const false) e = absurd (omega (arith, e))
same_wire (Input m) (Const true) e = absurd (omega (arith, e))
same_wire (Input m) Reset e = absurd (omega (arith, e))
same_wire (Input m) (Input n) e = let same : m ≡ n = omega (arith, e) in ap Input same
same_wire (Input m) (Reg n) e = absurd (omega (arith, e))
same_wire (Input m) (Gate n) e = absurd (omega (arith, e))
same_wire (Reg m) (Const false) e = absurd (omega (arith, e))
same_wire (Reg m) (Const true) e = absurd (omega (arith, e))
same_wire (Reg m) Reset e = absurd (omega (arith, e))
same_wire (Reg m) (Input n) e = absurd (omega (arith, e))
same_wire (Reg m) (Reg n) e = let same : m ≡ n = omega (arith, e) in ap Reg same
same_wire (Reg m) (Gate n) e = absurd (omega (arith, e))
same_wire (Gate m) (Const false) e = absurd (omega (arith, e))
same_wire (Gate m) (Const true) e = absurd (omega (arith, e))
same_wire (Gate m) Reset e = absurd (omega (arith, e))
same_wire (Gate m) (Input n) e = absurd (omega (arith, e))
same_wire (Gate m) (Reg n) e = absurd (omega (arith, e))
same_wire (Gate m) (Gate n) e = let same : m ≡ n = omega (arith, e) in ap Gate same

same_joined : (j : Joint) (a b c d : Wire) → wire_number a ≡ wire_number c → wire_number b ≡ wire_number d
    → Join j a b ≡ Join j c d
same_joined j a b c d e f = ap (λ x. Join j x b) (same_wire a c e) ∙ ap (λ x. Join j c x) (same_wire b d f)

by_parts : (f g : Form) → SameKey (form_key f) (form_key g) → f ≡ g
by_parts (Same a) (Same b) s = ap Same (same_wire a b s.first)
by_parts (Same a) (Not b) s = let e = s.kind in absurd (omega (arith, e))
by_parts (Same a) (Join All b c) s = let e = s.kind in absurd (omega (arith, e))
by_parts (Same a) (Join Any b c) s = let e = s.kind in absurd (omega (arith, e))
by_parts (Not a) (Same b) s = let e = s.kind in absurd (omega (arith, e))
by_parts (Not a) (Not b) s = ap Not (same_wire a b s.first)
by_parts (Not a) (Join All b c) s = let e = s.kind in absurd (omega (arith, e))
by_parts (Not a) (Join Any b c) s = let e = s.kind in absurd (omega (arith, e))
by_parts (Join All a b) (Same c) s = let e = s.kind in absurd (omega (arith, e))
by_parts (Join All a b) (Not c) s = let e = s.kind in absurd (omega (arith, e))
by_parts (Join All a b) (Join All c d) s = same_joined All a b c d s.first s.second
by_parts (Join All a b) (Join Any c d) s = let e = s.kind in absurd (omega (arith, e))
by_parts (Join Any a b) (Same c) s = let e = s.kind in absurd (omega (arith, e))
by_parts (Join Any a b) (Not c) s = let e = s.kind in absurd (omega (arith, e))
by_parts (Join Any a b) (Join All c d) s = let e = s.kind in absurd (omega (arith, e))
by_parts (Join Any a b) (Join Any c d) s = same_joined Any a b c d s.first s.second

pub same_form : (f g : Form) → form_eq f g ≡ true → f ≡ g
same_form f g e = by_parts f g (same_key (form_key f) (form_key g) e)
