-- Whether some vector satisfies a test of inputs below 64 can be decided.
use Rattle.std.proofs.Common.{◌≡◌, ℕ, zero, suc, ◌+◌, ◌-◌, ◌*◌, ◌/◌, ◌%◌, ◌^◌, ◌<◌, Bool, true, false, not, ◌&&◌, ◌||◌}
use Rattle.std.proofs.Common.{◌⊎◌, inl, inr, refl, sym, ◌∙◌, ap, subst, arith}
use Rattle.std.specs.Prelude.{nat_eq}
use Rattle.std.proofs.lemmas.Bool.{cases_Bool, cases_eq, and_parts, ltb-true}
use Rattle.std.proofs.lemmas.Nat.{mod-pow-add, shr_high, mod_below, pow_pos}
use Rattle.std.proofs.Math.Pow.{mod-mod-pow}
use Rattle.pbs_base.specs.Entries.{bit}
use Rattle.bool_terms.specs.Terms.{Term, Const, Input, Not, And, Or, holds, term_inputs_below}

-- some number below n passes, or none does
pub decide : (n : ℕ) (test : ℕ → Bool) → ((v : ℕ) × (test v ≡ true)) ⊎ ((v : ℕ) → v < n → test v ≡ false)
decide zero test = inr (λ v l. absurd (omega arith))
decide (suc n) test = elim (cases_Bool (test n)) [
  | inl here ↦ inl (n, here)
  | inr other ↦ elim (decide n test) [
    | inl found ↦ inl found
    | inr none ↦ inr (λ v l. elim (cases_eq v n) [
      | inl e ↦ ap test e ∙ other
      | inr ne ↦ none v (omega arith)
    ])
  ]
]

power_some : (n : ℕ) → 0 < 2 ^ n
power_some n = pow_pos n

-- a bit below the bound is one of the rest
low_bit : (k j v : ℕ) → bit k (v % 2 ^ (suc j + k)) ≡ bit k v
low_bit k j v =
    let cut : v % 2 ^ (suc j + k) ≡ (v / 2 ^ k % 2 ^ (suc j)) * 2 ^ k + v % 2 ^ k = mod-pow-add v (suc j) k in
    let small : v % 2 ^ k < 2 ^ k = mod_below v (2 ^ k) (power_some k) in
    let high : ((v / 2 ^ k % 2 ^ (suc j)) * 2 ^ k + v % 2 ^ k) / 2 ^ k ≡ v / 2 ^ k % 2 ^ (suc j) =
    shr_high (v / 2 ^ k % 2 ^ (suc j)) k (v % 2 ^ k) small in
    let last : v / 2 ^ k % 2 ^ (j + 1) % 2 ^ 1 ≡ v / 2 ^ k % 2 ^ 1 = mod-mod-pow (v / 2 ^ k) j 1 in
    let same : suc j ≡ j + 1 = omega arith in
    let whole : (v % 2 ^ (suc j + k)) / 2 ^ k ≡ v / 2 ^ k % 2 ^ (j + 1) =
    ap (λ x. x / 2 ^ k) cut ∙ (high ∙ ap (λ n. v / 2 ^ k % 2 ^ n) same) in
    ap (λ x. nat_eq (x % 2) 1) whole ∙ ap (λ x. nat_eq x 1) last

pub bit_of_low : (n k v : ℕ) → k < n → bit k (v % 2 ^ n) ≡ bit k v
bit_of_low n k v l =
    let e : suc (n - suc k) + k ≡ n = omega arith in
    subst (λ m. bit k (v % 2 ^ m) ≡ bit k v) e (low_bit k (n - suc k) v)

pub holds_of_low : (n : ℕ) (t : Term) (v : ℕ) → term_inputs_below n t ≡ true → holds t (v % 2 ^ n) ≡ holds t v
holds_of_low n (Const b) v h = refl
holds_of_low n (Input k) v h = bit_of_low n k v (ltb-true k n h)
holds_of_low n (Not t) v h = ap not (holds_of_low n t v h)
holds_of_low n (And a b) v h =
    let p = and_parts (term_inputs_below n a) (term_inputs_below n b) h in
    ap (λ x. x && holds b (v % 2 ^ n)) (holds_of_low n a v p.0) ∙ ap (λ x. holds a v && x) (holds_of_low n b v p.1)
holds_of_low n (Or a b) v h =
    let p = and_parts (term_inputs_below n a) (term_inputs_below n b) h in
    ap (λ x. x || holds b (v % 2 ^ n)) (holds_of_low n a v p.0) ∙ ap (λ x. holds a v || x) (holds_of_low n b v p.1)

-- two terms hold in one vector, or in none
pub both_or_never : (n : ℕ) (s t : Term) → term_inputs_below n s ≡ true → term_inputs_below n t ≡ true
    → ((v : ℕ) × (holds s v ≡ true) × (holds t v ≡ true)) ⊎ ((v : ℕ) → (holds s v && holds t v) ≡ false)
both_or_never n s t a b = elim (decide (2 ^ n) (λ v. holds s v && holds t v)) [
  | inl found ↦
      let p = and_parts (holds s found.0) (holds t found.0) found.1 in inl (found.0, p.0, p.1)
  | inr none ↦ inr (λ v.
      let l : v % 2 ^ n < 2 ^ n = mod_below v (2 ^ n) (power_some n) in
      ap (λ x. x && holds t v) (sym (holds_of_low n s v a))
      ∙ ap (λ x. holds s (v % 2 ^ n) && x) (sym (holds_of_low n t v b)) ∙ none (v % 2 ^ n) l)
]
