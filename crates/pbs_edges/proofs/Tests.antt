-- What the tests of a scope and of a star tell.
use Rattle.std.proofs.Common.{◌≡◌, ℕ, suc, ◌-◌, ◌<◌, ◌≤◌, Bool, true, false, not, ◌&&◌, ◌||◌, ◌⊎◌, inl, inr, arith}
use Rattle.std.proofs.lemmas.Bool.{and_parts, and_from, or_cases, or_left, or_right, both_ways, cases_order}
use Rattle.std.proofs.lemmas.Bool.{false_from_ne_true}
use Rattle.pbs_derive.specs.Derivations.{some_after, first_after, repeats}
use Rattle.pbs_derive.proofs.Positions.{none_to, none_from, first_to, first_from}
use Rattle.pbs_derive.proofs.Repeats.{last_of, repeats_from}

pub at_or_below : (m n : ℕ) → m < suc n → (m ≡ n) ⊎ (m < n)
at_or_below m n h = elim (cases_order m n) [
  | inl e ↦ inl e
  | inr o ↦ elim o [ inl l ↦ inr l | inr g ↦ absurd (omega arith) ]
]

-- no position after i and up to k passes the test
abbrev pub Quiet : (ℕ → Bool) → ℕ → ℕ → Type 0
Quiet test i k = (m : ℕ) → i < m → m ≤ k → test m ≡ false

-- m is the first position after i that passes the test
pub record IsFirstPass (test : ℕ → Bool) (i m : ℕ) : Type 0 where
  pub after : i < m
  pub passes : test m ≡ true
  pub before : (n : ℕ) → i < n → n < m → test n ≡ false

pub first_pass : (i k : ℕ) (test then : ℕ → Bool) → first_after i k test then ≡ true
    → (m : ℕ) × (m ≤ k) × IsFirstPass test i m × (then m ≡ true)
first_pass i k test then h =
    let w = first_to i k test then h in (
      w.0,
      w.2,
      record {
        after = w.1;
        passes = w.3;
        before = λ n low high. false_from_ne_true (test n) (w.4 n low (let a : n < w.0 = high in omega arith));
      },
      w.5,
    )

-- a property of a scope holds in the body, with no abort so far, or in the after part
pub scope-gives : (i k : ℕ) (trip : ℕ → Bool) (body : Bool) (later : ℕ → Bool)
    → ((not (some_after i k trip) && body) || first_after i k trip later) ≡ true
    → (Quiet trip i k × (body ≡ true)) ⊎ ((m : ℕ) × (m ≤ k) × IsFirstPass trip i m × (later m ≡ true))
scope-gives i k trip body later h =
    elim (or_cases (not (some_after i k trip) && body) (first_after i k trip later) h) [
      | inl a ↦
          let p = and_parts (not (some_after i k trip)) body a in
          inl (λ m low high. false_from_ne_true (trip m) (none_to i k trip p.0 m low high), p.1)
      | inr b ↦ inr (first_pass i k trip later b)
    ]

pub scope-from_body : (i k : ℕ) (trip : ℕ → Bool) (body : Bool) (later : ℕ → Bool) → Quiet trip i k → body ≡ true
    → ((not (some_after i k trip) && body) || first_after i k trip later) ≡ true
scope-from_body i k trip body later q b = or_left (not (some_after i k trip) && body) (first_after i k trip later)
    (and_from (not (some_after i k trip)) body
    (none_from i k trip (λ m low high t. both_ways (trip m) (q m low high) t)) b)

pub scope-from_after : (i k : ℕ) (trip : ℕ → Bool) (body : Bool) (later : ℕ → Bool) (m : ℕ) → m ≤ k
    → IsFirstPass trip i m → later m ≡ true
    → ((not (some_after i k trip) && body) || first_after i k trip later) ≡ true
scope-from_after i k trip body later m high f t =
    or_right (not (some_after i k trip) && body) (first_after i k trip later)
    (first_from i k trip later m f.after high f.passes
    (λ n low less u. both_ways (trip n) (f.before n low (let a = f.after in omega arith)) u) t)

-- stretches that lead from i to j have a last one
pub repeats-last : (once : ℕ → ℕ → Bool) (n i j : ℕ) → i < j → repeats once n i j ≡ true
    → (m : ℕ) × (i ≤ m) × (m < j) × (repeats once (m - i) i m ≡ true) × (once m j ≡ true)
repeats-last once n i j l h = elim (last_of once n i j h) [
  | inl e ↦ absurd (omega arith)
  | inr w ↦ (w.0, w.1, w.2, repeats_from once i w.0 w.3, w.4)
]
