-- The outputs of a row, as bits.
use Rattle.std.proofs.Common.{◌≡◌, ◌<◌, ◌≤◌, ◌+◌, ◌*◌, ◌%◌, ◌^◌, ℕ, Bool, true, false, ◌||◌, nat_eq, bit_or}
use Rattle.std.proofs.Common.{refl, sym, ap, ◌∙◌, arith, max, inl, inr, below_more}
use Rattle.std.specs.Int.{bit_at, w128}
use Rattle.std.proofs.lemmas.Nat.Bits.{bit_at_or, bit_at-lt, bit_at-zero, bit_at_set_same, bit_at_set_other}
use Rattle.std.proofs.lemmas.Bool.Decides.{nat_tests}
use Rattle.std.proofs.lemmas.Bool.{cases_eq}
use Rattle.trace_text.specs.Reports.{is_on}

max_is_one : (a b : ℕ) → a < 2 → b < 2 → nat_eq (max a b) 1 ≡ (nat_eq a 1 || nat_eq b 1)
max_is_one a b p q = grind (arith, nat_tests)

on-or : (a x y : ℕ) → is_on (bit_or x y) a ≡ (is_on x a || is_on y a)
on-or a x y =
    ap (λ n. nat_eq n 1) (bit_at_or x y a)
    ∙ max_is_one (bit_at x a) (bit_at y a) (bit_at-lt x a) (bit_at-lt y a)

same_test : (n k x : ℕ) → x ≡ 1 → n ≡ k → nat_eq x 1 ≡ nat_eq n k
same_test n k x p q = grind (arith, nat_tests)

other_test : (n k x : ℕ) → x ≡ 0 → (n ≡ k → ⊥) → nat_eq x 1 ≡ nat_eq n k
other_test n k x p q = grind (arith, nat_tests)

on-shifted : (n k : ℕ) → k < 128 → is_on (1 * 2 ^ k % 2 ^ 128) n ≡ nat_eq n k
on-shifted n k p = elim (cases_eq n k) [
  | inl e ↦ same_test n k _ (rw e (bit_at_set_same w128 0 k p)) e
  | inr d ↦ other_test n k _ (bit_at_set_other w128 0 k p n d ∙ bit_at-zero n) d
]

-- the first n bits are these, and the others are 0
pub record HasBits (on : ℕ) (bits : ℕ → Bool) (n : ℕ) : Type 0 where
  pub first : (k : ℕ) → k < n → is_on on k ≡ bits k
  pub rest : (k : ℕ) → n ≤ k → is_on on k ≡ false

or_false : (p : Bool) → (p || false) ≡ p
or_false true = refl
or_false false = refl

same_number : (k : ℕ) → nat_eq k k ≡ true
same_number k = grind (arith, nat_tests)

other_number : (k n : ℕ) → k < n → nat_eq k n ≡ false
other_number k n less = grind (arith, nat_tests)

past_number : (k n : ℕ) → n + 1 ≤ k → nat_eq k n ≡ false
past_number k n le = grind (arith, nat_tests)

-- one bit more, which is 1
pub bit_on : (on : ℕ) (bits : ℕ → Bool) (n : ℕ) → n < 128 → HasBits on bits n → bits n ≡ true
    → HasBits (bit_or on (1 * 2 ^ n % 2 ^ 128)) bits (n + 1)
bit_on on bits n small so_far lit =
    let at : (k : ℕ) → is_on (bit_or on (1 * 2 ^ n % 2 ^ 128)) k ≡ (is_on on k || nat_eq k n) =
    λ k. on-or k on (1 * 2 ^ n % 2 ^ 128) ∙ ap (λ t. is_on on k || t) (on-shifted k n small) in
    record {
      first = below_more (λ k. is_on (bit_or on (1 * 2 ^ n % 2 ^ 128)) k ≡ bits k) n
          (λ k less.
          at k
          ∙ (ap (λ t. is_on on k || t) (other_number k n less) ∙ (or_false (is_on on k) ∙ so_far.first k less)))
          (at n
          ∙ (ap (λ t. is_on on n || t) (same_number n)
          ∙ (ap (λ t. t || true) (so_far.rest n (omega arith)) ∙ sym lit)));
      rest = λ k le.
          at k
          ∙ (ap (λ t. is_on on k || t) (past_number k n le)
          ∙ (or_false (is_on on k) ∙ so_far.rest k (omega arith)));
    }

-- one bit more, which is 0
pub bit_off : (on : ℕ) (bits : ℕ → Bool) (n : ℕ) → HasBits on bits n → bits n ≡ false → HasBits on bits (n + 1)
bit_off on bits n so_far dark = record {
  first = below_more (λ k. is_on on k ≡ bits k) n so_far.first (so_far.rest n (omega arith) ∙ sym dark);
  rest = λ k le. so_far.rest k (omega arith);
}
