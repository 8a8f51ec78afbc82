-- A refusal of a row begins behind the bytes that were read before it came.
use Rattle.std.proofs.Common.{◌≡◌, ◌≤◌, ◌+◌, ◌-◌, ℕ, zero, suc, Bool, true, false, nat_eq, nat_lt, nat_le, ◌&&◌}
use Rattle.std.proofs.Common.{List, [], ◌∷◌, ◌++◌, length, refl, sym, ap, subst, ◌∙◌, arith}
use Rattle.std.proofs.Common.{append_assoc, length-append, if◌then◌else◌}
use Rattle.std.proofs.lemmas.Bool.Decides.{nat_tests}
use Rattle.pbs_base.specs.declared.refusal.Refusal.{Refusal}
use Rattle.pbs_base.specs.declared.entry.Entry.{Entry}
use Rattle.trace_text.specs.Traces.{Ending, End, Refused}
use Rattle.trace_text.specs.Traces.{Found, Good, Wrong, Rows, bare, digits, entry, followed, is_digit}
use Rattle.trace_text.specs.Traces.{is_good, is_too_long, lines, refused, right, row, rows, wanted, wrong_row}
use Rattle.trace_text.specs.States.{IsInRow, ReaderState, has_newline, rows_from}
use Rattle.trace_text.proofs.LineLemmas.{bare_ended, lines_ended, lines_open}
use Rattle.trace_text.proofs.RowLemmas.{right_open}
use Rattle.net_trace.proofs.TextLemmas.{cut, open_append}

-- ---- where a row's refusal begins

digits_more : (n : ℕ) (a b : List ℕ) → digits n a ≤ digits n (a ++ b)
digits_more zero a b = omega arith
digits_more (suc n) [] b = omega arith
digits_more (suc n) (c ∷ a) b = step (is_digit c) (digits n a) (digits n (a ++ b)) (digits_more n a b)
  where
    step : (d : Bool) (x y : ℕ) → x ≤ y → (if d then suc x else 0) ≤ (if d then suc y else 0)
    step true x y h = omega arith
    step false x y h = omega arith

right_more : (n : ℕ) (a b : List ℕ) → right n a ≤ right n (a ++ b)
right_more n [] b = omega arith
right_more n (c ∷ a) b = step (nat_eq c 114) (digits n (c ∷ a)) (digits n (c ∷ a ++ b)) (digits_more n (c ∷ a) b)
  where
    step : (r : Bool) (x y : ℕ) → x ≤ y → (if r then 1 else x) ≤ (if r then 1 else y)
    step true x y h = omega arith
    step false x y h = h

abbrev start_of : Found → ℕ
start_of (Good e) = 0
start_of (Wrong r) = r.span.start

wrong_start : (order line : List ℕ) (at least : ℕ) (r : Refusal) → row order at line ≡ Wrong r → least ≤ 67108864
    → least ≤ at + right (length order) line → least ≤ r.span.start
wrong_start order line at least r h low right_low =
    cases (is_too_long at line && nat_le 67108864 (at + right (length order) line)) (is_good (length order) line) h
  where
    cases : (long good : Bool)
        → (if long then Wrong (refused 1 67108864 67108865)
        else (if good then Good (entry order line) else Wrong (wrong_row (length order) at line))) ≡ Wrong r
        → least ≤ r.span.start
    cases true good h = let e = ap start_of h in omega arith
    cases false true h = absurd (cc)
    cases false false h = let e = ap start_of h in omega arith

-- ---- a good row ends within the limit

good_within : (order line : List ℕ) (at : ℕ) (e : Entry) → has_newline line ≡ false
    → row order at (line ++ 10 ∷ []) ≡ Good e → at + length (line ++ 10 ∷ []) ≤ 67108864
good_within order line at e open_line h =
    let n = length order in
    let whole = line ++ 10 ∷ [] in
    let short = ap length (bare_ended line [] open_line) in
    let long = length-append line (10 ∷ []) in
    cases (nat_lt 67108864 (at + length whole)) (nat_le 67108864 (at + right n whole))
    (nat_eq (right n whole) (wanted n whole)) (nat_eq (length (bare whole)) (wanted n whole)) refl refl refl refl h
  where
    cases : (a b c d : Bool) → nat_lt 67108864 (at + length (line ++ 10 ∷ [])) ≡ a
        → nat_le 67108864 (at + right (length order) (line ++ 10 ∷ [])) ≡ b
        → nat_eq (right (length order) (line ++ 10 ∷ [])) (wanted (length order) (line ++ 10 ∷ [])) ≡ c
        → nat_eq (length (bare (line ++ 10 ∷ []))) (wanted (length order) (line ++ 10 ∷ [])) ≡ d
        → (if a && b then Wrong (refused 1 67108864 67108865)
        else (if c && d then Good (entry order (line ++ 10 ∷ []))
        else Wrong (wrong_row (length order) at (line ++ 10 ∷ [])))) ≡ Good e
        → at + length (line ++ 10 ∷ []) ≤ 67108864
    cases false b c d p q r s h = grind (arith, nat_tests)
    cases true true c d p q r s h = absurd (cc)
    cases true false true true p q r s h =
        let short = ap length (bare_ended line [] open_line) in
        let long = length-append line (10 ∷ []) in
        grind (arith, nat_tests)
    cases true false false d p q r s h = absurd (cc)
    cases true false true false p q r s h = absurd (cc)

-- ---- the rows of a text

-- the first line is wrong, or the refusal comes behind it
elsewhere : (f : Found) (x : Rows) (r : Refusal) (least : ℕ) → (followed f x).ending ≡ Refused r
    → (f ≡ Wrong r → least ≤ r.span.start)
    → ((e : Entry) → f ≡ Good e → x.ending ≡ Refused r → least ≤ r.span.start) → least ≤ r.span.start
elsewhere (Good e) x r least h wrong good = good e refl h
elsewhere (Wrong s) x r least h wrong good = wrong (ap (wrong_of s) h)
  where
    wrong_of : Refusal → Ending → Found
    wrong_of s End = Wrong s
    wrong_of s (Refused t) = Wrong t

not_refused : (r : Refusal) → End ≡ Refused r → ⊥
not_refused r h = cc

-- a begun row that isn't ended
open_row : (order : List ℕ) (at : ℕ) (begun text : List ℕ) (r : Refusal) → at + length begun ≤ 67108864
    → right (length order) begun ≡ length begun → has_newline (begun ++ text) ≡ false
    → (all : List ℕ) → begun ++ text ≡ all → (rows order at (lines all)).ending ≡ Refused r
    → at + length begun ≤ r.span.start
open_row order at begun text r low right_is open_line [] e h = absurd (not_refused r h)
open_row order at begun text r low right_is open_line (c ∷ all) e h =
    let one = lines_open c all (subst (λ l. has_newline l ≡ false) e open_line) in
    elsewhere (row order at (c ∷ all)) (rows order (at + length (c ∷ all)) []) r (at + length begun)
    (ap (λ ls. (rows order at ls).ending) (sym one) ∙ h)
    (λ wrong. wrong_start order (c ∷ all) at (at + length begun) r wrong low
    (let more = subst (λ l. right (length order) begun ≤ right (length order) l) e
    (right_more (length order) begun text) in omega (arith, right_is)))
    (λ d good end. absurd (not_refused r end))

-- behind the bytes of a begun row that are right, a refusal of the rows of a text begins
pub behind : (order : List ℕ) (fuel at : ℕ) (begun text : List ℕ) (r : Refusal) → length text ≤ fuel
    → at + length begun ≤ 67108864 → right (length order) begun ≡ length begun → has_newline begun ≡ false
    → (n : Bool) → has_newline text ≡ n → (rows order at (lines (begun ++ text))).ending ≡ Refused r
    → at + length begun ≤ r.span.start
behind order fuel at begun text r few low right_is open_line false none h =
    open_row order at begun text r low right_is (open_append begun text open_line none) (begun ++ text) refl h
behind order zero at begun text r few low right_is open_line true some h =
    let k = cut text some in
    absurd (let e = ap length k.is in let l = length-append k.line (10 ∷ k.behind) in omega arith)
behind order (suc fuel) at begun text r few low right_is open_line true some h =
    let k = cut text some in
    let line = begun ++ k.line in
    let whole = line ++ 10 ∷ [] in
    let own = open_append begun k.line open_line k.open_line in
    let split : begun ++ text ≡ line ++ 10 ∷ k.behind =
    ap (λ l. begun ++ l) k.is ∙ sym (append_assoc begun k.line (10 ∷ k.behind)) in
    let two = ap lines split ∙ lines_ended line k.behind own in
    let long = length-append line (10 ∷ []) in
    let long_line = length-append begun k.line in
    let more : right (length order) begun ≤ right (length order) whole =
    subst (λ l. right (length order) begun ≤ right (length order) l) (sym (append_assoc begun k.line (10 ∷ [])))
    (right_more (length order) begun (k.line ++ 10 ∷ [])) in
    elsewhere (row order at whole) (rows order (at + length whole) (lines k.behind)) r (at + length begun)
    (ap (λ ls. (rows order at ls).ending) (sym two) ∙ h)
    (λ wrong. wrong_start order whole at (at + length begun) r wrong low (omega (arith, right_is, more)))
    (λ d good end.
    let within = good_within order line at d own good in
    let shorter : length k.behind ≤ fuel =
    (let e = ap length k.is in let l = length-append k.line (10 ∷ k.behind) in omega arith) in
    let later = behind order fuel (at + length whole) [] k.behind r shorter (omega (arith, within)) refl refl
    (has_newline k.behind) refl end in
    omega (arith, later, long, long_line))

-- whatever follows, a refusal begins behind the bytes that a reader has used
pub broken_behind : (s : ReaderState) (more : List ℕ) (r : Refusal) → IsInRow s
    → (rows_from s more).ending ≡ Refused r → s.used ≤ r.span.start
broken_behind s more r is h =
    let low = is.used in
    let within = is.within in
    let start = behind s.order (length more) (s.used - length s.begun) s.begun more r (omega arith)
    (omega (arith, low, within)) is.right (right_open (length s.order) s.begun is.right) (has_newline more) refl h in
    omega (arith, start, low)
