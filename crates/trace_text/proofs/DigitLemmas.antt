-- How many bytes of a row are right, once one byte more is there.
use Rattle.std.proofs.Common.{◌≡◌, ℕ, zero, suc, ◌+◌, ◌<◌, ◌≤◌, Bool, true, false, nat_eq, List, [], ◌∷◌, ◌++◌}
use Rattle.std.proofs.Common.{length, refl, sym, ap, arith, if◌then◌else◌}
use Rattle.trace_text.specs.Traces.{is_digit, digits, right}
use Rattle.trace_text.specs.Steps.{Wants}
use Rattle.std.specs.Prelude.{slice_index}
use Rattle.std.proofs.lemmas.Bool.{ne_eqb}

-- under a digit
same_under : (d : Bool) (a b c : ℕ) → (if d then suc a else 0) ≡ suc b → (a ≡ b → c ≡ b)
    → (if d then suc c else 0) ≡ suc b
same_under true a b c h f = let e : a ≡ b = omega arith in ap suc (f e)
same_under false a b c h f = absurd (cc)

more_under : (d : Bool) (a b c : ℕ) → (if d then suc a else 0) ≡ suc b → (a ≡ b → c ≡ b + 1)
    → (if d then suc c else 0) ≡ suc b + 1
more_under true a b c h f = let e : a ≡ b = omega arith in let g = f e in omega arith
more_under false a b c h f = absurd (cc)

first_digit : (n c : ℕ) → 0 < n → is_digit c ≡ true → digits n (c ∷ []) ≡ 1
first_digit zero c some d = absurd (omega arith)
first_digit (suc n) c some d = rw d (ap suc (none n))
  where
    none : (n : ℕ) → digits n [] ≡ 0
    none zero = refl
    none (suc n) = refl

digits_more : (n : ℕ) (b : List ℕ) (c : ℕ) → digits n b ≡ length b → length b < n → is_digit c ≡ true
    → digits n (b ++ c ∷ []) ≡ length b + 1
digits_more n [] c h some d = first_digit n c some d
digits_more zero (x ∷ b) c h some d = absurd (omega arith)
digits_more (suc n) (x ∷ b) c h some d =
    let few : length b < n = omega arith in
    more_under (is_digit x) (digits n b) (length b) (digits n (b ++ c ∷ [])) h (λ e. digits_more n b c e few d)

digits_full : (n : ℕ) (b more : List ℕ) → digits n b ≡ length b → n ≤ length b → digits n (b ++ more) ≡ length b
digits_full zero [] more h full = refl
digits_full (suc n) [] more h full = absurd (omega arith)
digits_full zero (x ∷ b) more h full = h
digits_full (suc n) (x ∷ b) more h full =
    let fits : n ≤ length b = omega arith in
    same_under (is_digit x) (digits n b) (length b) (digits n (b ++ more)) h (λ e. digits_full n b more e fits)

pub digits_stop : (n : ℕ) (b : List ℕ) (c : ℕ) (more : List ℕ) → digits n b ≡ length b → is_digit c ≡ false
    → digits n (b ++ c ∷ more) ≡ length b
digits_stop zero [] c more h d = refl
digits_stop (suc n) [] c more h d = rw d refl
digits_stop zero (x ∷ b) c more h d = h
digits_stop (suc n) (x ∷ b) c more h d =
    same_under (is_digit x) (digits n b) (length b) (digits n (b ++ c ∷ more)) h (λ e. digits_stop n b c more e d)

-- a row that begins with another byte than the letter
pub wants_more : (n x : ℕ) (b : List ℕ) (c : ℕ) → nat_eq x 114 ≡ false → right n (x ∷ b) ≡ length (x ∷ b)
    → length (x ∷ b) < n → is_digit c ≡ true → right n (x ∷ b ++ c ∷ []) ≡ length (x ∷ b) + 1
wants_more n x b c other = rw other (digits_more n (x ∷ b) c)

pub wants_no_more : (n x : ℕ) (b more : List ℕ) → nat_eq x 114 ≡ false → right n (x ∷ b) ≡ length (x ∷ b)
    → n ≤ length (x ∷ b) → right n (x ∷ b ++ more) ≡ length (x ∷ b)
wants_no_more n x b more other = rw other (digits_full n (x ∷ b) more)

pub wants_digit : (n x : ℕ) (b : List ℕ) (c : ℕ) (more : List ℕ) → nat_eq x 114 ≡ false
    → right n (x ∷ b) ≡ length (x ∷ b) → is_digit c ≡ false → right n (x ∷ b ++ c ∷ more) ≡ length (x ∷ b)
wants_digit n x b c more other = rw other (digits_stop n (x ∷ b) c more)

pub first_more : (n c : ℕ) → nat_eq c 114 ≡ false → 0 < n → is_digit c ≡ true → right n (c ∷ []) ≡ 1
first_more n c other some d = rw other (first_digit n c some d)

pub first_stop : (n c : ℕ) (more : List ℕ) → nat_eq c 114 ≡ false → is_digit c ≡ false → right n (c ∷ more) ≡ 0
first_stop n c more other d = rw other (digits_stop n [] c more (none n) d)
  where
    none : (n : ℕ) → digits n [] ≡ 0
    none zero = refl
    none (suc n) = refl

kept_under : (d : Bool) (a b c : ℕ) → (if d then suc a else 0) ≡ suc b → (a ≡ b → b ≤ c)
    → suc b ≤ (if d then suc c else 0)
kept_under true a b c h f = let e : a ≡ b = omega arith in let g = f e in omega (arith, g)
kept_under false a b c h f = absurd (cc)

-- no byte becomes wrong by what follows it
digits_kept : (n : ℕ) (b more : List ℕ) → digits n b ≡ length b → length b ≤ digits n (b ++ more)
digits_kept n [] more h = omega arith
digits_kept zero (x ∷ b) more h = absurd (omega arith)
digits_kept (suc n) (x ∷ b) more h = kept_under (is_digit x) (digits n b) (length b) (digits n (b ++ more)) h
    (λ e. digits_kept n b more e)

pub right_kept : (n : ℕ) (b more : List ℕ) → right n b ≡ length b → length b ≤ right n (b ++ more)
right_kept n [] more h = omega arith
right_kept n (x ∷ b) more h = kept (nat_eq x 114) h (digits_kept n (x ∷ b) more)
  where
    kept : (r : Bool) → (if r then 1 else digits n (x ∷ b)) ≡ length (x ∷ b)
        → (digits n (x ∷ b) ≡ length (x ∷ b) → length (x ∷ b) ≤ digits n (x ∷ b ++ more))
        → length (x ∷ b) ≤ (if r then 1 else digits n (x ∷ b ++ more))
    kept true e f = omega arith
    kept false e f = f e

-- ---- what the tests of the code say

pub first_wanted : (n c : ℕ) (r : Bool) → r ≡ is_digit c → (c ≡ 114 → ⊥) → (n ≡ 0 → ⊥) → Wants n [] c r
first_wanted n c true h other some = let p : 0 < n = omega arith in first_more n c (ne_eqb c 114 other) p (sym h)
first_wanted n c false h other some = λ more. first_stop n c more (ne_eqb c 114 other) (sym h)

pub full_row : (n : ℕ) (b : List ℕ) (c : ℕ) → 1 ≤ length b → (slice_index b 0 ≡ 114 → ⊥) → right n b ≡ length b
    → n ≤ length b → (more : List ℕ) → right n (b ++ c ∷ more) ≡ length b
full_row n [] c some other h full more = absurd (omega arith)
full_row n (x ∷ b) c some other h full more = wants_no_more n x b (c ∷ more) (ne_eqb x 114 other) h full

pub next_wanted : (n : ℕ) (b : List ℕ) (c : ℕ) (r : Bool) → r ≡ is_digit c → 1 ≤ length b
    → (slice_index b 0 ≡ 114 → ⊥) → right n b ≡ length b → length b < n → Wants n b c r
next_wanted n [] c r e some other h few = absurd (omega arith)
next_wanted n (x ∷ b) c true e some other h few = wants_more n x b c (ne_eqb x 114 other) h few (sym e)
next_wanted n (x ∷ b) c false e some other h few = λ more. wants_digit n x b c more (ne_eqb x 114 other) h (sym e)
