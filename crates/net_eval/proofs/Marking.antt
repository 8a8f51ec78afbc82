-- One bit of one word, seen as a mark.
use Rattle.std.proofs.Common.{◌≡◌, ℕ, ◌+◌, ◌-◌, ◌*◌, ◌/◌, ◌%◌, ◌^◌, ◌<◌, ◌≤◌}
use Rattle.std.proofs.Common.{true, false, not, ◌&&◌, ◌||◌, List, length}
use Rattle.std.proofs.Common.{get_or, sym, ap, ◌∙◌, inl, inr, arith, w64, bit_and, bit_or}
use Rattle.std.specs.Prelude.{nat_eq, slice_set}
use Rattle.std.specs.Int.{bit_at, bit_not, trailing_zeros}
use Rattle.std.proofs.lemmas.List.{get_or-set_same, get_or-set_other}
use Rattle.std.proofs.lemmas.Nat.{shr-shr}
use Rattle.std.proofs.lemmas.Nat.Bits.{bit_at_set_same, bit_at_set_other, bit_at_clear_same, bit_at_clear_other}
use Rattle.std.proofs.lemmas.Nat.Bits.{bit_at-trailing_zeros, bit_at-zero, bit_at_above}
use Rattle.std.proofs.Math.Bool.{and-false, and-true, or-false, or-true}
use Rattle.std.proofs.lemmas.Bool.{cases_eq, cases_lt}
use Rattle.std.proofs.lemmas.Bool.Decides.{nat_tests}
use Rattle.net_eval.specs.inner.Marks.{is_marked}

-- two numbers of one word and one bit are one
same_place : (k n : ℕ) → k / 64 ≡ n / 64 → k % 64 ≡ n % 64 → k ≡ n
same_place k n p q = omega arith

eq_same : (k n : ℕ) → k ≡ n → nat_eq k n ≡ true
eq_same k n e = grind (arith, nat_tests)

eq_other : (k n : ℕ) → (k ≡ n → ⊥) → nat_eq k n ≡ false
eq_other k n e = grind (arith, nat_tests)

-- another word is as it was
set_elsewhere : (words : List ℕ) (n x k : ℕ) → (k / 64 ≡ n / 64 → ⊥)
    → is_marked (slice_set words (n / 64) x) k ≡ is_marked words k
set_elsewhere words n x k ne = ap (λ w. nat_eq (bit_at w (k % 64)) 1) (get_or-set_other words (n / 64) (k / 64) x 0 ne)

set_here : (words : List ℕ) (n x k : ℕ) → n / 64 < length words → k / 64 ≡ n / 64
    → is_marked (slice_set words (n / 64) x) k ≡ nat_eq (bit_at x (k % 64)) 1
set_here words n x k within e =
    ap (λ w. nat_eq (bit_at w (k % 64)) 1)
    (ap (λ j. get_or (slice_set words (n / 64) x) j 0) e ∙ get_or-set_same words (n / 64) x 0 within)

pub mark_one : (words : List ℕ) (n x k : ℕ) → n / 64 < length words
    → x ≡ bit_or (get_or words (n / 64) 0) (1 * 2 ^ (n % 64) % 2 ^ 64)
    → is_marked (slice_set words (n / 64) x) k ≡ (is_marked words k || nat_eq k n)
mark_one words n x k within is = elim (cases_eq (k / 64) (n / 64)) [
  | inl same ↦ elim (cases_eq (k % 64) (n % 64)) [
    | inl e ↦
        set_here words n x k within same
        ∙ ap (λ b. nat_eq b 1) (ap (λ i. bit_at x i) e ∙ ap (λ y. bit_at y (n % 64)) is
        ∙ bit_at_set_same w64 (get_or words (n / 64) 0) (n % 64) (omega arith))
        ∙ sym (ap (λ b. is_marked words k || b) (eq_same k n (same_place k n same e)) ∙ or-true (is_marked words k))
    | inr e ↦
        set_here words n x k within same
        ∙ ap (λ b. nat_eq b 1) (ap (λ y. bit_at y (k % 64)) is
        ∙ bit_at_set_other w64 (get_or words (n / 64) 0) (n % 64) (omega arith) (k % 64) e)
        ∙ ap (λ j. nat_eq (bit_at (get_or words j 0) (k % 64)) 1) (sym same)
        ∙ sym (ap (λ b. is_marked words k || b) (eq_other k n (λ f. e (ap (λ j. j % 64) f)))
        ∙ or-false (is_marked words k))
  ]
  | inr e ↦
      set_elsewhere words n x k e
      ∙ sym (ap (λ b. is_marked words k || b) (eq_other k n (λ f. e (ap (λ j. j / 64) f)))
      ∙ or-false (is_marked words k))
]

pub unmark_one : (words : List ℕ) (n x k : ℕ) → n / 64 < length words
    → x ≡ bit_and (get_or words (n / 64) 0) (bit_not w64 (1 * 2 ^ (n % 64) % 2 ^ 64))
    → is_marked (slice_set words (n / 64) x) k ≡ (is_marked words k && not (nat_eq k n))
unmark_one words n x k within is = elim (cases_eq (k / 64) (n / 64)) [
  | inl same ↦ elim (cases_eq (k % 64) (n % 64)) [
    | inl e ↦
        set_here words n x k within same
        ∙ ap (λ b. nat_eq b 1) (ap (λ i. bit_at x i) e ∙ ap (λ y. bit_at y (n % 64)) is
        ∙ bit_at_clear_same w64 (get_or words (n / 64) 0) (n % 64) (omega arith))
        ∙ sym (ap (λ b. is_marked words k && not b) (eq_same k n (same_place k n same e))
        ∙ and-false (is_marked words k))
    | inr e ↦
        set_here words n x k within same
        ∙ ap (λ b. nat_eq b 1) (ap (λ y. bit_at y (k % 64)) is
        ∙ bit_at_clear_other w64 (get_or words (n / 64) 0) (n % 64) (omega arith) (k % 64) (omega arith) e)
        ∙ ap (λ j. nat_eq (bit_at (get_or words j 0) (k % 64)) 1) (sym same)
        ∙ sym (ap (λ b. is_marked words k && not b) (eq_other k n (λ f. e (ap (λ j. j % 64) f)))
        ∙ and-true (is_marked words k))
  ]
  | inr e ↦
      set_elsewhere words n x k e
      ∙ sym (ap (λ b. is_marked words k && not b) (eq_other k n (λ f. e (ap (λ j. j / 64) f)))
      ∙ and-true (is_marked words k))
]

-- ---- the first bit of a word from bit s on

bit_behind : (w s i : ℕ) → bit_at (w / 2 ^ s) i ≡ bit_at w (s + i)
bit_behind w s i = ap (λ x. x % 2) (shr-shr w s i)

-- the word's part from bit s on has no bit
pub none_behind : (w s i : ℕ) → w / 2 ^ s ≡ 0 → s ≤ i → nat_eq (bit_at w i) 1 ≡ false
none_behind w s i e h =
    let at : s + (i - s) ≡ i = omega arith in
    ap (λ b. nat_eq b 1)
    (ap (λ j. bit_at w j) (sym at) ∙ sym (bit_behind w s (i - s)) ∙ ap (λ x. bit_at x (i - s)) e ∙ bit_at-zero (i - s))

pub record IsNext (w s d : ℕ) : Type 0 where
  pub within : s + d < 64
  pub found : nat_eq (bit_at w (s + d)) 1 ≡ true
  pub none : (i : ℕ) → s ≤ i → i < s + d → nat_eq (bit_at w i) 1 ≡ false

pub next_bit : (w s : ℕ) → w < 2 ^ 64 → s < 64 → 0 < w / 2 ^ s → w / 2 ^ s < 2 ^ 64
    → IsNext w s (trailing_zeros w64 (w / 2 ^ s))
next_bit w s small few some rest_small =
    let x = w / 2 ^ s in
    let d = trailing_zeros w64 x in
    let t = bit_at-trailing_zeros w64 x some rest_small in
    let one : bit_at w (s + d) ≡ 1 = sym (bit_behind w s d) ∙ t.1 in
    record {
      within = elim (cases_lt (s + d) 64) [
        | inl lt ↦ lt
        | inr ge ↦ absurd (let z : bit_at w (s + d) ≡ 0 = bit_at_above w 64 (s + d) small ge in omega arith)
      ];
      found = ap (λ b. nat_eq b 1) one;
      none = λ i p q.
          let at : s + (i - s) ≡ i = omega arith in
          ap (λ b. nat_eq b 1)
          (ap (λ j. bit_at w j) (sym at) ∙ sym (bit_behind w s (i - s)) ∙ t.2 (i - s) (omega arith));
    }

pub first_bit : (w : ℕ) → w < 2 ^ 64 → 0 < w → IsNext w 0 (trailing_zeros w64 w)
first_bit w small some =
    let t = bit_at-trailing_zeros w64 w some small in
    let low = t.0 in
    let d = trailing_zeros w64 w in
    let same : 0 + d ≡ d = omega arith in
    record {
      within = omega arith;
      found = ap (λ b. nat_eq b 1) (ap (λ j. bit_at w j) same ∙ t.1);
      none = λ i p q. ap (λ b. nat_eq b 1) (t.2 i (omega arith));
    }

-- ---- over all words

in_word : (words : List ℕ) (k w i : ℕ) → k / 64 ≡ w → k % 64 ≡ i
    → is_marked words k ≡ nat_eq (bit_at (get_or words w 0) i) 1
in_word words k w i p q =
    ap (λ j. nat_eq (bit_at (get_or words j 0) (k % 64)) 1) p ∙ ap (λ j. nat_eq (bit_at (get_or words w 0) j) 1) q

pub found_here : (words : List ℕ) (w s d k : ℕ) → IsNext (get_or words w 0) s d → k ≡ 64 * w + s + d
    → is_marked words k ≡ true
found_here words w s d k next at =
    let few = next.within in
    in_word words k w (s + d) (omega arith) (omega arith) ∙ next.found

pub none_here : (words : List ℕ) (w s d k : ℕ) → IsNext (get_or words w 0) s d → 64 * w + s ≤ k
    → k < 64 * w + s + d → is_marked words k ≡ false
none_here words w s d k next p q =
    let few = next.within in
    in_word words k w (k - 64 * w) (omega arith) (omega arith) ∙ next.none (k - 64 * w) (omega arith) (omega arith)

pub none_rest : (words : List ℕ) (w s k : ℕ) → get_or words w 0 / 2 ^ s ≡ 0 → 64 * w + s ≤ k → k < 64 * (w + 1)
    → is_marked words k ≡ false
none_rest words w s k e p q =
    in_word words k w (k - 64 * w) (omega arith) (omega arith)
    ∙ none_behind (get_or words w 0) s (k - 64 * w) e (omega arith)

pub none_whole : (words : List ℕ) (w k : ℕ) → get_or words w 0 ≡ 0 → 64 * w ≤ k → k < 64 * (w + 1)
    → is_marked words k ≡ false
none_whole words w k e p q =
    in_word words k w (k - 64 * w) (omega arith) (omega arith)
    ∙ ap (λ b. nat_eq b 1) (ap (λ x. bit_at x (k - 64 * w)) e ∙ bit_at-zero (k - 64 * w))
