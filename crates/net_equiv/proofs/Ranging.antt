-- The numbers of the comparisons that are made are in range.
use Rattle.std.proofs.Common.{◌≡◌, ℕ, zero, suc, ◌<◌, ◌≤◌, Bool, true, false, cond, if◌then◌else◌, List, [], ◌∷◌, ◌++◌, length, Option, Some, None}
use Rattle.std.proofs.Common.{refl, sym, ap, subst, ◌∙◌, arith}
use Rattle.std.specs.Prelude.{slice_get, slice_index_or, map, filter, is_some, unwrap_or}
use Rattle.std.specs.List.{range_with_len}
use Rattle.std.proofs.lemmas.List.{length-map}
use Rattle.std.proofs.lemmas.Option.{same_Some, slice_get-get_or, slice_get_within}
use Rattle.std.proofs.lemmas.List.FromFn.{length-map-range_with_len}
use Rattle.net_core.specs.declared.gate.Wire.{Wire}
use Rattle.net_core.specs.declared.gate.Wire.TheVariants as wire
use Rattle.net_core.specs.declared.netlist.Output.{Output}
use Rattle.net_core.specs.Circuits.{Circuit, IsCircuit, IsThere, wire_at}
use Rattle.net_eval.specs.Assignments.{IsOrdered}
use Rattle.net_equiv.specs.declared.answer.RegPair.{RegPair}
use Rattle.net_equiv.specs.declared.answer.Comparison.{Comparison}
use Rattle.net_equiv.specs.Pairing.{partner_of, ArePairs, SamePorts}
use Rattle.net_equiv.specs.Comparing.{compare_output, compare_register, comparisons_in, has_partner, wire_of}
use Rattle.net_equiv.specs.inner.Naming.{IsMade}
use Rattle.net_equiv.proofs.Listing.{counted}
use Rattle.net_equiv.proofs.Partners.{partner_paired}

-- ---- what holds of each comparison of a list

record Each (P : Comparison → Type 0) (xs : List Comparison) : Type 0 where
  pub each : (k : ℕ) (x : Comparison) → slice_get xs k ≡ Some x → P x

each_front : (P : Comparison → Type 0) (z : Comparison) (xs : List Comparison) → P z → Each P xs → (k : ℕ)
    (x : Comparison) → slice_get (z ∷ xs) k ≡ Some x → P x
each_front P z xs p rest zero x e = subst P (same_Some z x e) p
each_front P z xs p rest (suc k) x e = rest.each k x e

each_more : (P : Comparison → Type 0) (z : Comparison) (xs : List Comparison) → P z → Each P xs → Each P (z ∷ xs)
each_more P z xs p rest = record { each = each_front P z xs p rest }

each_tail : (P : Comparison → Type 0) (z : Comparison) (xs : List Comparison) → Each P (z ∷ xs) → Each P xs
each_tail P z xs p = record { each = λ k x e. p.each (suc k) x e }

each_joined : (P : Comparison → Type 0) (xs ys : List Comparison) → Each P xs → Each P ys → Each P (xs ++ ys)
each_joined P [] ys p q = q
each_joined P (z ∷ xs) ys p q =
    each_more P z (xs ++ ys) (p.each zero z refl) (each_joined P xs ys (each_tail P z xs p) q)

abbrev Passes : (Comparison → Type 0) → (Comparison → Bool) → Comparison → Type 0
Passes P p x = P x × (p x ≡ true)

each_kept : (P : Comparison → Type 0) (p : Comparison → Bool) (xs : List Comparison) → Each P xs
    → Each (Passes P p) (filter p xs)
each_kept P p [] all = record { each = λ k x e. absurd (cc) }
each_kept P p (z ∷ xs) all = by (p z) refl (each_kept P p xs (each_tail P z xs all))
  where
    by : (t : Bool) → p z ≡ t → Each (Passes P p) (filter p xs)
        → Each (Passes P p) (cond t (z ∷ filter p xs) (filter p xs))
    by true is rest = each_more (Passes P p) z (filter p xs) (all.each zero z refl, is) rest
    by false is rest = rest

each_counted : (P : Comparison → Type 0) (f : ℕ → Comparison) (count : ℕ) → ((n : ℕ) → n < count → P (f n))
    → Each P (map f (range_with_len 0 count))
each_counted P f count all = record {
  each = λ k x e.
      let long = length-map-range_with_len f 0 count in
      let below = slice_get_within (map f (range_with_len 0 count)) k x e in
      let within : k < count = omega arith in
      subst P (same_Some (f k) x (sym (counted f count k within) ∙ e)) (all k within);
}

-- ---- the numbers of the comparisons

pub record IsInRange (net : Circuit) (register : Bool) (number : ℕ) : Type 0 where
  pub of_register : register ≡ true → number < length net.registers
  pub of_output : register ≡ false → number < length net.outputs

abbrev Ranges : Circuit → Comparison → Type 0
Ranges a c = IsInRange a c.register c.number

pub record IsRight (a : Circuit) (pairs : List RegPair) (c : Comparison) : Type 0 where
  pub range : IsInRange a c.register c.number
  pub partner : c.register ≡ true → has_partner pairs c ≡ true

outputs_right : (a : Circuit) (pairs : List RegPair) (reset : Bool)
    → Each (IsRight a pairs) (map (compare_output reset) (range_with_len 0 (length a.outputs)))
outputs_right a pairs reset =
    each_counted (IsRight a pairs) (compare_output reset) (length a.outputs)
    (λ n h. record {
      range = record { of_register = λ e. absurd (cc); of_output = λ e. h };
      partner = λ e. absurd (cc);
    })

registers_right : (a : Circuit) (pairs : List RegPair) (reset : Bool)
    → Each (IsRight a pairs)
    (filter (has_partner pairs) (map (compare_register reset) (range_with_len 0 (length a.registers))))
registers_right a pairs reset =
    let all = map (compare_register reset) (range_with_len 0 (length a.registers)) in
    let kept = each_kept (Ranges a) (has_partner pairs) all
    (each_counted (Ranges a) (compare_register reset) (length a.registers)
    (λ n h. record { of_register = λ e. h; of_output = λ e. absurd (cc) })) in
    record {
      each = λ k x e.
          let both = kept.each k x e in
          record { range = both.0; partner = λ t. both.1 };
    }

case_right : (a : Circuit) (pairs : List RegPair) (reset : Bool) → Each (IsRight a pairs) (comparisons_in a pairs reset)
case_right a pairs reset =
    each_joined (IsRight a pairs) (map (compare_output reset) (range_with_len 0 (length a.outputs)))
    (filter (has_partner pairs) (map (compare_register reset) (range_with_len 0 (length a.registers))))
    (outputs_right a pairs reset) (registers_right a pairs reset)

pub made_right : (a : Circuit) (pairs : List RegPair) (c : Comparison) → IsMade a pairs c → IsRight a pairs c
made_right a pairs c made =
    (each_joined (IsRight a pairs) (comparisons_in a pairs true) (comparisons_in a pairs false)
    (case_right a pairs true) (case_right a pairs false)).each made.place c made.at

-- ---- and of the register or output of B

module _ (a b : Circuit) (pairs : List RegPair) (ports : SamePorts a b) (paired : ArePairs a b pairs) where
  same_count : length a.outputs ≡ length b.outputs
  same_count =
      sym (length-map a.outputs (λ (o : Output). o.name))
      ∙ (ap (λ (xs : List (List ℕ)). length xs) ports.outputs ∙ length-map b.outputs (λ (o : Output). o.name))

  partner_within : (r : ℕ) (o : Option ℕ) → partner_of pairs r ≡ o → is_some o ≡ true
      → unwrap_or o 0 < length b.registers
  partner_within r None e s = absurd (cc)
  partner_within r (Some m) e s =
      let found = partner_paired pairs r m e in
      subst (λ k. k < length b.registers) found.b_is (paired.in_b found.place found.pair found.at)

  b_range : (register : Bool) (n : ℕ) → IsInRange a register n
      → (register ≡ true → is_some (partner_of pairs n) ≡ true)
      → IsInRange b register (if register then unwrap_or (partner_of pairs n) 0 else n)
  b_range true n range partner = record {
    of_register = λ e. partner_within n (partner_of pairs n) refl (partner refl);
    of_output = λ e. absurd (cc);
  }
  b_range false n range partner = record {
    of_register = λ e. absurd (cc);
    of_output = λ e. subst (λ k. n < k) same_count (range.of_output refl);
  }

  pub b_in_range : (c : Comparison) → IsMade a pairs c
      → IsInRange b c.register (if c.register then unwrap_or (partner_of pairs c.number) 0 else c.number)
  b_in_range c made =
      let right = made_right a pairs c made in
      b_range c.register c.number right.range right.partner

-- ---- so the compared wires are there

there_in : (i i' r g : ℕ) (w : Wire) → i ≤ i' → IsThere i r g w → IsThere i' r g w
there_in i i' r g (wire.Const b) q h = tt
there_in i i' r g wire.Reset q h = tt
there_in i i' r g (wire.Input n) q h = omega arith
there_in i i' r g (wire.Reg n) q h = h
there_in i i' r g (wire.Gate n) q h = h

pub root_there : (net : Circuit) → IsCircuit net → (register : Bool) (n : ℕ) → IsInRange net register n
    → IsThere (length net.inputs) (length net.registers) (length net.gates) (wire_of net register n)
root_there net ok true n range =
    ok.data_there.each n (wire_at net.registers n)
    (slice_get-get_or net.registers n (wire.Const false) (range.of_register refl))
root_there net ok false n range =
    let none : Output = record { name = []; gate = 0 } in
    ok.outputs_right.there n (slice_index_or net.outputs n none)
    (slice_get-get_or net.outputs n none (range.of_output refl))

pub root_in : (net : Circuit) → IsCircuit net → (register : Bool) (n : ℕ) → IsInRange net register n
    → IsThere 64 (length net.registers) (length net.gates) (wire_of net register n)
root_in net ok register n range =
    there_in (length net.inputs) 64 (length net.registers) (length net.gates) (wire_of net register n) ok.inputs_few
    (root_there net ok register n range)

pub ordered_in : (net : Circuit) → IsCircuit net → IsOrdered 64 (length net.registers) net.gates
ordered_in net ok = record {
  earlier = λ n g at. record {
    each = λ k w pin.
        there_in (length net.inputs) 64 (length net.registers) n w ok.inputs_few
        ((ok.gates_fit n g at).there.each k w pin);
  };
}
