-- What a row is, by the bytes of its line.
use Rattle.std.proofs.Common.{◌≡◌, ℕ, zero, suc, ◌+◌, ◌<◌, ◌≤◌, min, Bool, true, false, nat_eq, nat_le, ◌||◌, ◌&&◌}
use Rattle.std.proofs.Common.{List, [], ◌∷◌, ◌++◌, length, length-append, refl, ap, ◌∙◌, arith, if◌then◌else◌}
use Rattle.std.proofs.lemmas.Bool.{eqb-true, le-ltb, lt-ltb, lt-leb, le-leb}
use Rattle.std.proofs.lemmas.Bool.Decides.{nat_tests}
use Rattle.pbs_base.specs.declared.entry.Entry.TheVariants.{Vector, Reset}
use Rattle.trace_text.specs.Traces.{Good, Wrong, bare, digits, entry, is_digit, is_good, is_too_long, refused}
use Rattle.trace_text.specs.Traces.{right, row, vector, wanted, wrong_row}
use Rattle.trace_text.specs.Steps.{whole}
use Rattle.trace_text.specs.States.{has_newline}
use Rattle.trace_text.proofs.DigitLemmas.{right_kept, digits_stop}
use Rattle.trace_text.proofs.LineLemmas.{bare_ended, bare_open, bare_long}

-- ---- a line that is right so far

digit_open : (x : ℕ) → is_digit x ≡ true → nat_eq x 10 ≡ false
digit_open x h = grind (arith, nat_tests)

letter_open : (x : ℕ) → nat_eq x 114 ≡ true → nat_eq x 10 ≡ false
letter_open x h = grind (arith, nat_tests)

open_under : (d m e : Bool) (a b : ℕ) → (d ≡ true → e ≡ false) → (if d then suc a else 0) ≡ suc b
    → (a ≡ b → m ≡ false) → (e || m) ≡ false
open_under true m e a b g h f = let same : a ≡ b = omega arith in rw (g refl) (f same)
open_under false m e a b g h f = absurd (cc)

digits_open : (n : ℕ) (b : List ℕ) → digits n b ≡ length b → has_newline b ≡ false
digits_open n [] h = refl
digits_open zero (x ∷ b) h = absurd (omega arith)
digits_open (suc n) (x ∷ b) h = open_under (is_digit x) (has_newline b) (nat_eq x 10) (digits n b) (length b)
    (digit_open x) h (digits_open n b)

alone : (b : List ℕ) → 1 ≡ suc (length b) → has_newline b ≡ false
alone [] h = refl
alone (x ∷ b) h = absurd (omega arith)

pub right_open : (n : ℕ) (b : List ℕ) → right n b ≡ length b → has_newline b ≡ false
right_open n [] h = refl
right_open n (x ∷ b) h = by (nat_eq x 114) refl h
  where
    by : (r : Bool) → nat_eq x 114 ≡ r → (if r then 1 else digits n (x ∷ b)) ≡ length (x ∷ b)
        → has_newline (x ∷ b) ≡ false
    by true e h = rw (letter_open x e) (alone b h)
    by false e h = digits_open n (x ∷ b) h

digits_few : (n : ℕ) (b : List ℕ) → digits n b ≤ n
digits_few zero b = omega arith
digits_few (suc n) [] = omega arith
digits_few (suc n) (x ∷ b) = few (is_digit x) (digits_few n b)
  where
    few : (d : Bool) → digits n b ≤ n → (if d then suc (digits n b) else 0) ≤ suc n
    few true h = omega arith
    few false h = omega arith

pub right_few : (n : ℕ) (b : List ℕ) → n ≤ 64 → right n b ≤ 64
right_few n [] h = omega arith
right_few n (x ∷ b) h = few (nat_eq x 114) (digits_few n (x ∷ b))
  where
    few : (r : Bool) → digits n (x ∷ b) ≤ n → (if r then 1 else digits n (x ∷ b)) ≤ 64
    few true e = omega arith
    few false e = omega arith

-- the newline is wrong wherever another byte is wanted
pub right_newline : (n : ℕ) (b more : List ℕ) → right n b ≡ length b → right n (b ++ 10 ∷ more) ≡ length b
right_newline n [] more h = digits_stop n [] 10 more (none n) refl
  where
    none : (n : ℕ) → digits n [] ≡ 0
    none zero = refl
    none (suc n) = refl
right_newline n (x ∷ b) more h = by (nat_eq x 114) h (digits_stop n (x ∷ b) 10 more)
  where
    by : (r : Bool) → (if r then 1 else digits n (x ∷ b)) ≡ length (x ∷ b)
        → (digits n (x ∷ b) ≡ length (x ∷ b) → false ≡ false → digits n (x ∷ b ++ 10 ∷ more) ≡ length (x ∷ b))
        → (if r then 1 else digits n (x ∷ b ++ 10 ∷ more)) ≡ length (x ∷ b)
    by true h f = h
    by false h f = f h refl

wanted_front : (n : ℕ) (b : List ℕ) (c : ℕ) (more : List ℕ) → nat_eq c 10 ≡ true → wanted n (b ++ c ∷ more) ≡ wanted n b
wanted_front n [] c more e = let other : nat_eq c 114 ≡ false = grind (arith, nat_tests) in rw other refl
wanted_front n (x ∷ b) c more e = refl

vector_front : (order b more : List ℕ) → length order ≤ length b → vector order (b ++ more) ≡ vector order b
vector_front [] b more h = refl
vector_front (p ∷ order) [] more h = absurd (omega arith)
vector_front (p ∷ order) (x ∷ b) more h =
    let fits : length order ≤ length b = omega arith in
    rw (vector_front order b more fits) refl

entry_front : (order b : List ℕ) → whole (length order) b ≡ true → entry order (b ++ 10 ∷ []) ≡ entry order b
entry_front [] [] h = refl
entry_front (p ∷ order) [] h =
    let none : 0 ≡ suc (length order) = eqb-true 0 (suc (length order)) h in
    absurd (omega arith)
entry_front order (x ∷ b) h = by (nat_eq x 114) h
  where
    by : (r : Bool) → nat_eq (length (x ∷ b)) (if r then 1 else length order) ≡ true
        → (if r then Reset else Vector (vector order (x ∷ b ++ 10 ∷ [])))
        ≡ (if r then Reset else Vector (vector order (x ∷ b)))
    by true e = refl
    by false e =
        let same : length (x ∷ b) ≡ length order = eqb-true _ _ e in
        let fits : length order ≤ length (x ∷ b) = omega arith in
        ap Vector (vector_front order (x ∷ b) (10 ∷ []) fits)

-- ---- the tests of a row

first_test : {X : Type 0} (l t g : Bool) (x y z : X) → l ≡ true → t ≡ true
    → (if l && t then x else (if g then y else z)) ≡ x
first_test true true g x y z p q = refl
first_test true false g x y z p q = absurd (cc)
first_test false t g x y z p q = absurd (cc)

good_test : {X : Type 0} (l t g : Bool) (x y z : X) → l ≡ false → g ≡ true
    → (if l && t then x else (if g then y else z)) ≡ y
good_test false t true x y z p q = refl
good_test false t false x y z p q = absurd (cc)
good_test true t g x y z p q = absurd (cc)

wrong_test : {X : Type 0} (l t g : Bool) (x y z : X) → (l && t) ≡ false → g ≡ false
    → (if l && t then x else (if g then y else z)) ≡ z
wrong_test l t false x y z p q = rw p refl
wrong_test l t true x y z p q = absurd (cc)

and_off : (l t : Bool) → t ≡ false → (l && t) ≡ false
and_off true t h = h
and_off false t h = refl

both_on : (a b : Bool) → a ≡ true → b ≡ true → (a && b) ≡ true
both_on a b p q = rw p q

-- ---- rows

same_good : (n : ℕ) (line b : List ℕ) → right n line ≡ length b → bare line ≡ b → wanted n line ≡ wanted n b
    → is_good n line ≡ (whole n b && whole n b)
same_good n line b p q r = rw (p, q, r) refl

pub row_good : (order b : List ℕ) (at : ℕ) → right (length order) b ≡ length b → whole (length order) b ≡ true
    → at + length b < 67108864 → row order at (b ++ 10 ∷ []) ≡ Good (entry order b)
row_good order b at h all within =
    let short : at + length (b ++ 10 ∷ []) ≤ 67108864 = omega (arith, length-append b (10 ∷ [])) in
    let good : is_good (length order) (b ++ 10 ∷ []) ≡ true = same_good (length order) (b ++ 10 ∷ []) b
    (right_newline (length order) b [] h) (bare_ended b [] (right_open (length order) b h))
    (wanted_front (length order) b 10 [] refl) ∙ both_on _ _ all all in
    good_test (is_too_long at (b ++ 10 ∷ [])) (nat_le 67108864 (at + right (length order) (b ++ 10 ∷ [])))
    (is_good (length order) (b ++ 10 ∷ [])) (Wrong (refused 1 67108864 67108865))
    (Good (entry order (b ++ 10 ∷ []))) (Wrong (wrong_row (length order) at (b ++ 10 ∷ [])))
    (le-ltb 67108864 (at + length (b ++ 10 ∷ [])) short) good
    ∙ ap Good (entry_front order b all)

pub row_last : (order b : List ℕ) (at : ℕ) → right (length order) b ≡ length b → whole (length order) b ≡ true
    → at + length b ≤ 67108864 → row order at b ≡ Good (entry order b)
row_last order b at h all within =
    let good : is_good (length order) b ≡ true = same_good (length order) b b h
    (bare_open b (right_open (length order) b h)) refl ∙ both_on _ _ all all in
    good_test (is_too_long at b) (nat_le 67108864 (at + right (length order) b)) (is_good (length order) b)
    (Wrong (refused 1 67108864 67108865)) (Good (entry order b)) (Wrong (wrong_row (length order) at b))
    (le-ltb 67108864 (at + length b) within) good

at_end : (at : ℕ) → min (at + 1) at ≡ at
at_end at = omega arith

pub row_short : (order b : List ℕ) (at : ℕ) → right (length order) b ≡ length b → whole (length order) b ≡ false
    → at + length b ≤ 67108864 → row order at b ≡ Wrong (refused 3 (at + length b) (at + length b))
row_short order b at h part within =
    let bad : is_good (length order) b ≡ false = same_good (length order) b b h
    (bare_open b (right_open (length order) b h)) refl ∙ rw part refl in
    let early : (is_too_long at b && nat_le 67108864 (at + right (length order) b)) ≡ false = rw
    (le-ltb 67108864 (at + length b) within) refl in
    wrong_test (is_too_long at b) (nat_le 67108864 (at + right (length order) b)) (is_good (length order) b)
    (Wrong (refused 1 67108864 67108865)) (Good (entry order b)) (Wrong (wrong_row (length order) at b)) early bad
    ∙ rw h (ap (λ e. Wrong (refused 3 (at + length b) e)) (at_end (at + length b)))

pub row_long : (order b : List ℕ) (c : ℕ) (more : List ℕ) (at : ℕ) → right (length order) b ≡ length b
    → at + length b ≡ 67108864 → row order at (b ++ c ∷ more) ≡ Wrong (refused 1 67108864 67108865)
row_long order b c more at h full =
    let long : 67108864 < at + length (b ++ c ∷ more) = omega (arith, length-append b (c ∷ more)) in
    let kept : length b ≤ right (length order) (b ++ c ∷ more) = right_kept (length order) b (c ∷ more) h in
    let late : 67108864 ≤ at + right (length order) (b ++ c ∷ more) = omega arith in
    first_test (is_too_long at (b ++ c ∷ more)) (nat_le 67108864 (at + right (length order) (b ++ c ∷ more)))
    (is_good (length order) (b ++ c ∷ more)) (Wrong (refused 1 67108864 67108865))
    (Good (entry order (b ++ c ∷ more))) (Wrong (wrong_row (length order) at (b ++ c ∷ more)))
    (lt-ltb 67108864 (at + length (b ++ c ∷ more)) long) (le-leb 67108864 (at + right (length order) (b ++ c ∷ more))
    late)

differ : (a b w : ℕ) → a < b → (nat_eq a w && nat_eq b w) ≡ false
differ a b w less = by (nat_eq a w) (nat_eq b w) refl refl
  where
    by : (p q : Bool) → nat_eq a w ≡ p → nat_eq b w ≡ q → (p && q) ≡ false
    by false q e f = refl
    by true false e f = refl
    by true true e f = let x : a ≡ w = eqb-true a w e in let y : b ≡ w = eqb-true b w f in absurd (omega arith)

not_good : (n : ℕ) (b : List ℕ) (c : ℕ) (more : List ℕ) → right n b ≡ length b → right n (b ++ c ∷ more) ≡ length b
    → (nat_eq c 10 ≡ true → whole n b ≡ false) → is_good n (b ++ c ∷ more) ≡ false
not_good n b c more h stop part = by (nat_eq c 10) refl
  where
    by : (e : Bool) → nat_eq c 10 ≡ e → is_good n (b ++ c ∷ more) ≡ false
    by true e =
        let c10 : c ≡ 10 = eqb-true c 10 e in
        let bared : bare (b ++ c ∷ more) ≡ b = ap (λ d. bare (b ++ d ∷ more)) c10 ∙ bare_ended b more
        (right_open n b h) in
        same_good n (b ++ c ∷ more) b stop bared (wanted_front n b c more e) ∙ rw (part e) refl
    by false e =
        let long : length b < length (bare (b ++ c ∷ more)) = let g = bare_long b c more (right_open n b h) e in omega
        (arith, g) in
        rw stop (differ (length b) (length (bare (b ++ c ∷ more))) (wanted n (b ++ c ∷ more)) long)

one_byte : (at m : ℕ) → at + 1 ≤ m → min (at + 1) m ≡ at + 1
one_byte at m h = omega arith

pub row_wrong : (order b : List ℕ) (c : ℕ) (more : List ℕ) (at : ℕ) → right (length order) b ≡ length b
    → right (length order) (b ++ c ∷ more) ≡ length b → (nat_eq c 10 ≡ true → whole (length order) b ≡ false)
    → at + length b < 67108864
    → row order at (b ++ c ∷ more) ≡ Wrong (refused 3 (at + length b) (at + length b + 1))
row_wrong order b c more at h stop part within =
    let early : at + right (length order) (b ++ c ∷ more) < 67108864 = omega (arith, stop) in
    let there : at + length b + 1 ≤ at + length (b ++ c ∷ more) = omega (arith, length-append b (c ∷ more)) in
    wrong_test (is_too_long at (b ++ c ∷ more)) (nat_le 67108864 (at + right (length order) (b ++ c ∷ more)))
    (is_good (length order) (b ++ c ∷ more)) (Wrong (refused 1 67108864 67108865))
    (Good (entry order (b ++ c ∷ more))) (Wrong (wrong_row (length order) at (b ++ c ∷ more)))
    (and_off _ _ (lt-leb 67108864 (at + right (length order) (b ++ c ∷ more)) early))
    (not_good (length order) b c more h stop part)
    ∙ rw stop (ap (λ e. Wrong (refused 3 (at + length b) e)) (one_byte (at + length b) (at + length (b ++ c ∷ more))
    there))
