-- The gates that a row begins by looking at.
use Rattle.std.proofs.Common.{◌≡◌, ℕ, zero, suc, ◌+◌, ◌-◌, ◌/◌, ◌%◌, ◌^◌, ◌<◌, ◌≤◌, inl, inr}
use Rattle.std.proofs.Common.{Bool, true, false, not, ◌&&◌, ◌||◌}
use Rattle.std.proofs.Common.{List, length, get_or, refl, sym, ap, ◌∙◌, arith, bit_xor}
use mathlib.Core.Bool.{beq}
use Rattle.std.specs.Prelude.{nat_eq, nat_lt}
use Rattle.std.specs.Int.{bit_at}
use Rattle.std.specs.List.{list_any}
use Rattle.std.proofs.Math.Bool.{and-false, and-true}
use Rattle.std.proofs.lemmas.Bool.{cases_lt}
use Rattle.std.proofs.lemmas.Bool.Decides.{nat_tests}
use Rattle.std.proofs.lemmas.Nat.{shr-shr}
use Rattle.std.proofs.lemmas.Option.{slice_get_within}
use Rattle.std.proofs.lemmas.Nat.Bits.{bit_at_xor, bit_at-lt, bit_at-zero}
use Rattle.pbs_base.specs.Entries.{bit}
use Rattle.net_core.specs.declared.gate.Wire.{Wire}
use Rattle.net_core.specs.declared.gate.Wire.TheVariants.{Const, Reset, Input, Reg, Gate}
use Rattle.net_core.specs.declared.gate.Gate as gate
use Rattle.net_core.specs.Rows.{differs}
use Rattle.net_core.specs.Circuits.{IsThere}
use Rattle.net_eval.specs.Readers.{is_wire}
use Rattle.net_eval.specs.Assignments.{IsOrdered}
use Rattle.net_eval.specs.Counts.{is_changed}
use Rattle.net_eval.specs.inner.Marks.{Awaits, IsClear, Wakes, of_inputs, of_registers}
use Rattle.net_eval.specs.States.{row_of}
use Rattle.net_eval.proofs.Changing.{any_there, or_and_false, wakes_more, wakes_none, wakes_same}

-- ---- one more source

one_more : (k n : ℕ) (d x e : Bool) → (k ≡ n → x ≡ d) → e ≡ nat_eq n k
    → (nat_lt k (n + 1) && d) ≡ ((nat_lt k n && d) || (x && e))
one_more k n d x e same is = elim (cases_lt k n) [
  | inl less ↦
      let low : nat_lt k (n + 1) ≡ true = grind (arith, nat_tests) in
      let lower : nat_lt k n ≡ true = grind (arith, nat_tests) in
      let other : nat_eq n k ≡ false = grind (arith, nat_tests) in
      rw (low, lower, is, other) (or_and_false d x)
  | inr ge ↦ elim (cases_lt n k) [
    | inl more ↦
        let high : nat_lt k (n + 1) ≡ false = grind (arith, nat_tests) in
        let higher : nat_lt k n ≡ false = grind (arith, nat_tests) in
        let other : nat_eq n k ≡ false = grind (arith, nat_tests) in
        rw (high, higher, is, other) (sym (and-false x))
    | inr le ↦
        let low : nat_lt k (n + 1) ≡ true = grind (arith, nat_tests) in
        let higher : nat_lt k n ≡ false = grind (arith, nat_tests) in
        let equal : nat_eq n k ≡ true = grind (arith, nat_tests) in
        rw (low, higher, is, equal) (sym (and-true x ∙ same (omega arith)))
  ]
]

inputs_more : (before now n : ℕ) (x : Bool) → x ≡ differs (bit n before) (bit n now) → (w : Wire)
    → of_inputs before now (n + 1) w ≡ (of_inputs before now n w || (x && is_wire (Input n) w))
inputs_more before now n x is (Const b) = sym (and-false x)
inputs_more before now n x is Reset = sym (and-false x)
inputs_more before now n x is (Input k) =
    one_more k n (differs (bit k before) (bit k now)) x (nat_eq n k)
    (λ e. is ∙ sym (ap (λ j. differs (bit j before) (bit j now)) e)) refl
inputs_more before now n x is (Reg k) = sym (and-false x)
inputs_more before now n x is (Gate k) = sym (and-false x)

pub inputs_step : (gates : List gate.Gate) (a b c : List ℕ) (before now n : ℕ) (x : Bool)
    → x ≡ differs (bit n before) (bit n now) → Wakes gates a b (of_inputs before now n)
    → Wakes gates b c (λ w. x && is_wire (Input n) w) → Wakes gates a c (of_inputs before now (n + 1))
inputs_step gates a b c before now n x is h l =
    wakes_more gates a b c (of_inputs before now n) (λ w. x && is_wire (Input n) w) (of_inputs before now (n + 1))
    (inputs_more before now n x is) h l

pub inputs_none : (gates : List gate.Gate) (a : List ℕ) (before now : ℕ) → Wakes gates a a (of_inputs before now 0)
inputs_none gates a before now = wakes_none gates a (of_inputs before now 0) each
  where
    each : (w : Wire) → of_inputs before now 0 w ≡ false
    each (Const b) = refl
    each Reset = refl
    each (Input k) =
        let low : nat_lt k 0 ≡ false = grind (arith, nat_tests) in
        ap (λ b. b && differs (bit k before) (bit k now)) low
    each (Reg k) = refl
    each (Gate k) = refl

sum_odd : (p q : ℕ) → p < 2 → q < 2 → nat_eq ((p + q) % 2) 1 ≡ differs (nat_eq p 1) (nat_eq q 1)
sum_odd zero zero h l = refl
sum_odd zero (suc zero) h l = refl
sum_odd (suc zero) zero h l = refl
sum_odd (suc zero) (suc zero) h l = refl
sum_odd zero (suc (suc q)) h l = absurd (omega arith)
sum_odd (suc zero) (suc (suc q)) h l = absurd (omega arith)
sum_odd (suc (suc p)) q h l = absurd (omega arith)

pub xor_bit : (a b n : ℕ) → nat_eq (bit_xor a b / 2 ^ n % 2) 1 ≡ differs (bit n a) (bit n b)
xor_bit a b n =
    ap (λ x. nat_eq x 1) (bit_at_xor a b n) ∙ sum_odd (bit_at a n) (bit_at b n) (bit_at-lt a n) (bit_at-lt b n)

-- no bit from n on changed
xor_rest : (a b n k : ℕ) → bit_xor a b / 2 ^ n ≡ 0 → n ≤ k → differs (bit k a) (bit k b) ≡ false
xor_rest a b n k e h =
    let at : n + (k - n) ≡ k = omega arith in
    sym (xor_bit a b k)
    ∙ ap (λ x. nat_eq x 1)
    (ap (λ j. bit_at (bit_xor a b) j) (sym at) ∙ sym (ap (λ x. x % 2) (shr-shr (bit_xor a b) n (k - n)))
    ∙ ap (λ x. bit_at x (k - n)) e ∙ bit_at-zero (k - n))

pub inputs_rest : (gates : List gate.Gate) (a b : List ℕ) (before now n : ℕ) → n ≤ 64
    → bit_xor before now / 2 ^ n ≡ 0 → Wakes gates a b (of_inputs before now n)
    → Wakes gates a b (of_inputs before now 64)
inputs_rest gates a b before now n few e h =
    wakes_same gates a b (of_inputs before now n) (of_inputs before now 64) each h
  where
    each : (w : Wire) → of_inputs before now 64 w ≡ of_inputs before now n w
    each (Const b) = refl
    each Reset = refl
    each (Input k) = elim (cases_lt k n) [
      | inl less ↦
          let low : nat_lt k 64 ≡ true = grind (arith, nat_tests) in
          let lower : nat_lt k n ≡ true = grind (arith, nat_tests) in
          rw (low, lower) refl
      | inr ge ↦
          let high : nat_lt k n ≡ false = grind (arith, nat_tests) in
          rw (high, xor_rest before now n k e ge) (and-false (nat_lt k 64))
    ]
    each (Reg k) = refl
    each (Gate k) = refl

registers_more : (before now : List Bool) (n : ℕ) (x : Bool) → x ≡ differs (get_or before n false) (get_or now n false)
    → (w : Wire) → of_registers before now (n + 1) w ≡ (of_registers before now n w || (x && is_wire (Reg n) w))
registers_more before now n x is (Const b) = sym (and-false x)
registers_more before now n x is Reset = sym (and-false x)
registers_more before now n x is (Input k) = sym (and-false x)
registers_more before now n x is (Reg k) =
    one_more k n (differs (get_or before k false) (get_or now k false)) x (nat_eq n k)
    (λ e. is ∙ sym (ap (λ j. differs (get_or before j false) (get_or now j false)) e)) refl
registers_more before now n x is (Gate k) = sym (and-false x)

pub registers_step : (gates : List gate.Gate) (a b c : List ℕ) (before now : List Bool) (n : ℕ) (x : Bool)
    → x ≡ differs (get_or before n false) (get_or now n false) → Wakes gates a b (of_registers before now n)
    → Wakes gates b c (λ w. x && is_wire (Reg n) w) → Wakes gates a c (of_registers before now (n + 1))
registers_step gates a b c before now n x is h l =
    wakes_more gates a b c (of_registers before now n) (λ w. x && is_wire (Reg n) w) (of_registers before now (n + 1))
    (registers_more before now n x is) h l

pub registers_none : (gates : List gate.Gate) (a : List ℕ) (before now : List Bool)
    → Wakes gates a a (of_registers before now 0)
registers_none gates a before now = wakes_none gates a (of_registers before now 0) each
  where
    each : (w : Wire) → of_registers before now 0 w ≡ false
    each (Const b) = refl
    each Reset = refl
    each (Input k) = refl
    each (Reg k) =
        let low : nat_lt k 0 ≡ false = grind (arith, nat_tests) in
        ap (λ b. b && differs (get_or before k false) (get_or now k false)) low
    each (Gate k) = refl

-- ---- all sources

pub unequal : (a b : Bool) → not (beq a b) ≡ differs a b
unequal true true = refl
unequal true false = refl
unequal false true = refl
unequal false false = refl

pub unequal_turned : (a b : Bool) → not (beq b a) ≡ differs a b
unequal_turned true true = refl
unequal_turned true false = refl
unequal_turned false true = refl
unequal_turned false false = refl

same_false : (b : Bool) → differs b b ≡ false
same_false true = refl
same_false false = refl

pub awaits_all : (gates : List gate.Gate) (a b c d : List ℕ) (r : ℕ) (old now : List Bool) (was is : Bool) (x y : ℕ)
    (changed : Bool) (values : List Bool) → IsOrdered 64 r gates → IsClear (length gates) a → changed ≡ differs was is
    → Wakes gates a b (λ w. changed && is_wire Reset w) → Wakes gates b c (of_inputs x y 64)
    → Wakes gates c d (of_registers old now r) → Awaits gates d (row_of old was x values) (row_of now is y values)
awaits_all gates a b c d r old now was is x y changed values ordered clear e h i j =
    let p = λ (w : Wire). changed && is_wire Reset w in
    let q = λ (w : Wire). p w || of_inputs x y 64 w in
    let s = λ (w : Wire). q w || of_registers old now r w in
    let two = wakes_more gates a b c p (of_inputs x y 64) q (λ w. refl) h i in
    let all = wakes_more gates a c d q (of_registers old now r) s (λ w. refl) two j in
    record {
      each = λ k g at.
          all.each k g at
          ∙ ap (λ m. m || list_any s g.pins) (clear.each k (slice_get_within gates k g at))
          ∙ any_there 64 r k s (is_changed (row_of old was x values) (row_of now is y values)) (each k) g.pins
          (ordered.earlier k g at);
    }
  where
    only_first : (a b : Bool) → a ≡ b → (((a && true) || false) || false) ≡ b
    only_first true b e = e
    only_first false b e = e

    each : (k : ℕ) (w : Wire) → IsThere 64 r k w
        → (((changed && is_wire Reset w) || of_inputs x y 64 w) || of_registers old now r w)
        ≡ is_changed (row_of old was x values) (row_of now is y values) w
    each k (Const b) l = ap (λ c. (c || false) || false) (and-false changed) ∙ sym (same_false b)
    each k Reset l = only_first changed (differs was is) e
    each k (Input j) l =
        let low : nat_lt j 64 ≡ true = grind (arith, nat_tests) in
        rw (and-false changed, low) (only_last (differs (bit j x) (bit j y)))
      where
        only_last : (a : Bool) → (a || false) ≡ a
        only_last true = refl
        only_last false = refl
    each k (Reg j) l =
        let low : nat_lt j r ≡ true = grind (arith, nat_tests) in
        rw (and-false changed, low) refl
    each k (Gate j) l =
        ap (λ c. (c || false) || false) (and-false changed) ∙ sym (same_false (get_or values j false))
