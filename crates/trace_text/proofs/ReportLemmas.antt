-- A report line that is written name by name.
use Rattle.std.proofs.Common.{◌≡◌, ◌≤◌, ◌<◌, ◌+◌, ℕ, Bool, true, false, cond, List, [], ◌∷◌, ◌++◌, length, drop, Some}
use Rattle.std.proofs.Common.{suc, Result, Ok, Err, codes, decimal, refl, sym, ap, subst, ◌∙◌, append_assoc, add-one}
use Rattle.std.proofs.Common.{drop-cons, arith}
use Rattle.std.specs.Prelude.{slice_get}
use Rattle.std.proofs.lemmas.List.{drop_all}
use Rattle.std.proofs.lemmas.Option.{slice_get_within, get_or_from_slice_get}
use Rattle.pbs_io.specs.Outside.{SinkState}
use Rattle.trace_text.specs.Held.{Holds}
use Rattle.trace_text.proofs.HeldLemmas.{HeldUpTo, held_before, piece_held, text_unheld, last_held}
use Rattle.trace_text.specs.Reports.{names_on, or_dash, row_line}

-- what is left of the line before name n, where some name was on or none
abbrev pub row_rest : Bool → (ℕ → Bool) → List (List ℕ) → ℕ → List ℕ
row_rest any on names n = cond any (names_on on (drop n names) n) (or_dash (names_on on (drop n names) n)) ++ codes "\n"

name_off : (any : Bool) (on : ℕ → Bool) (names : List (List ℕ)) (n : ℕ) → n < length names → on n ≡ false
    → row_rest any on names n ≡ row_rest any on names (n + 1)
name_off any on names n within off =
    let step : names_on on (drop n names) n ≡ names_on on (drop (n + 1) names) (n + 1) = rw
    (add-one, drop-cons names n [] within) (rw off (rw add-one refl)) in
    ap (λ l. cond any l (or_dash l) ++ codes "\n") step

next_name : (names : List (List ℕ)) (n : ℕ) (name : List ℕ) → slice_get names n ≡ Some name
    → drop n names ≡ name ∷ drop (suc n) names
next_name names n name at =
    let within : n < length names = slice_get_within names n name at in
    drop-cons names n name within ∙ ap (λ x. x ∷ drop (suc n) names) (get_or_from_slice_get names n name name at)

name_on : (any : Bool) (on : ℕ → Bool) (names : List (List ℕ)) (n : ℕ) (name : List ℕ) → slice_get names n ≡ Some name
    → on n ≡ true → row_rest any on names n ≡ ((32 ∷ []) ++ name) ++ row_rest true on names (n + 1)
name_on any on names n name at lit =
    let step : names_on on (drop n names) n ≡ (32 ∷ name) ++ names_on on (drop (n + 1) names) (n + 1) = rw
    (add-one, next_name names n name at) (rw lit (rw add-one refl)) in
    let more : List ℕ = names_on on (drop (n + 1) names) (n + 1) in
    let joined : ((32 ∷ name) ++ more) ++ codes "\n" ≡ (32 ∷ name) ++ (more ++ codes "\n") = append_assoc (32 ∷ name)
    more (codes "\n") in
    ap (λ l. cond any l (or_dash l) ++ codes "\n") step
    ∙ elim any as (λ b. cond b ((32 ∷ name) ++ more) (or_dash ((32 ∷ name) ++ more)) ++ codes "\n" ≡ (32 ∷ name) ++
    (more ++ codes "\n")) [ true ↦ joined | false ↦ joined ]

row_ended : (any : Bool) (on : ℕ → Bool) (names : List (List ℕ)) (n : ℕ) → length names ≤ n
    → row_rest any on names n ≡ cond any (codes "\n") (codes " -\n")
row_ended any on names n past = rw (drop_all n names past)
    (elim any as (λ b. cond b [] (or_dash []) ++ codes "\n" ≡ cond b (codes "\n") (codes " -\n"))
    [ true ↦ refl | false ↦ refl ])

-- ---- what is held of a line

-- the line is held up to name n
pub record RowHeld (before now : SinkState) (names : List (List ℕ)) (row : ℕ) (on : ℕ
    → Bool) (any : Bool) (n : ℕ) (held held_now : List ℕ) : Type 0 where
  pub so_far : HeldUpTo before now (held ++ row_line names row on) (row_rest any on names n) held_now

row_begun : (sink : SinkState) (names : List (List ℕ)) (row : ℕ) (on : ℕ → Bool) (digits held : List ℕ)
    → digits ≡ decimal row
    → HeldUpTo sink sink (held ++ row_line names row on) (digits ++ row_rest false on names 0) held
row_begun sink names row on digits held is =
    subst (λ d. HeldUpTo sink sink (held ++ row_line names row on) (d ++ row_rest false on names 0) held) (sym is)
    (held_before sink (row_line names row on) held)

pub number_held : {T E : Type 0} (a b : SinkState) (names : List (List ℕ)) (row : ℕ) (on : ℕ
    → Bool) (digits held held_now : List ℕ) (x : T) → digits ≡ decimal row
    → Holds {E = E} a b held held_now digits (Ok x)
    → RowHeld a b names row on false 0 held held_now
number_held a b names row on digits held held_now x is put = record
    { so_far = piece_held a a b _ digits _ held held_now x (row_begun a names row on digits held is) put }

pub number_unheld : {T U E F : Type 0} (a b : SinkState) (names : List (List ℕ)) (row : ℕ) (on : ℕ
    → Bool) (digits held held_now : List ℕ) (e : E) (f : F) → digits ≡ decimal row
    → Holds {T = T} a b held held_now digits (Err e)
    → Holds {T = U} a b held held_now (row_line names row on) (Err f)
number_unheld a b names row on digits held held_now e f is put = text_unheld a a b (row_line names row on) digits _
    held held held_now e f (row_begun a names row on digits held is) put

pub name_passed : (a b : SinkState) (names : List (List ℕ)) (row : ℕ) (on : ℕ
    → Bool) (any : Bool) (n : ℕ) (held held_now : List ℕ) → RowHeld a b names row on any n held held_now
    → n < length names → on n ≡ false
    → RowHeld a b names row on any (n + 1) held held_now
name_passed a b names row on any n held held_now line within off =
    record {
      so_far = subst (λ l. HeldUpTo a b (held ++ row_line names row on) l held_now)
          (name_off any on names n within off) line.so_far;
    }

before_name : (a b : SinkState) (names : List (List ℕ)) (row : ℕ) (on : ℕ
    → Bool) (any : Bool) (n : ℕ) (name held held_now : List ℕ) → RowHeld a b names row on any n held held_now
    → slice_get names n ≡ Some name → on n ≡ true
    → HeldUpTo a b (held ++ row_line names row on) (((32 ∷ []) ++ name) ++ row_rest true on names (n + 1)) held_now
before_name a b names row on any n name held held_now line at lit = subst
    (λ l. HeldUpTo a b (held ++ row_line names row on) l held_now) (name_on any on names n name at lit) line.so_far

pub name_held : {T E : Type 0} (a b c : SinkState) (names : List (List ℕ)) (row : ℕ) (on : ℕ
    → Bool) (any : Bool) (n : ℕ) (name held held_now held_then : List ℕ) (x : T)
    → RowHeld a b names row on any n held held_now
    → slice_get names n ≡ Some name → on n ≡ true → Holds {E = E} b c held_now held_then ((32 ∷ []) ++ name) (Ok x)
    → RowHeld a c names row on true (n + 1) held held_then
name_held a b c names row on any n name held held_now held_then x line at lit put =
    record {
      so_far = piece_held a b c _ ((32 ∷ []) ++ name) _ held_now held_then x
          (before_name a b names row on any n name held held_now line at lit) put;
    }

pub name_unheld : {T U E F : Type 0} (a b c : SinkState) (names : List (List ℕ)) (row : ℕ) (on : ℕ
    → Bool) (any : Bool) (n : ℕ) (name held held_now held_then : List ℕ) (e : E) (f : F)
    → RowHeld a b names row on any n held held_now
    → slice_get names n ≡ Some name → on n ≡ true → Holds {T = T} b c held_now held_then ((32 ∷ []) ++ name) (Err e)
    → Holds {T = U} a c held held_then (row_line names row on) (Err f)
name_unheld a b c names row on any n name held held_now held_then e f line at lit put =
    text_unheld a b c (row_line names row on) ((32 ∷ []) ++ name) _ held held_now held_then e f
    (before_name a b names row on any n name held held_now line at lit) put

pub line_ended : {T E : Type 0} (a b c : SinkState) (names : List (List ℕ)) (row : ℕ) (on : ℕ
    → Bool) (any : Bool) (n : ℕ) (last held held_now held_then : List ℕ) (result : Result T E)
    → RowHeld a b names row on any n held held_now
    → length names ≤ n → cond any (codes "\n") (codes " -\n") ≡ last → Holds b c held_now held_then last result
    → Holds a c held held_then (row_line names row on) result
line_ended a b c names row on any n last held held_now held_then result line past is put =
    last_held a b c (row_line names row on) last held held_now held_then result
    (subst (λ l. HeldUpTo a b (held ++ row_line names row on) l held_now) (row_ended any on names n past
    ∙ is) line.so_far) put

names_on-same : (names : List (List ℕ)) (on off : ℕ → Bool) (n : ℕ)
    → ((a : ℕ) → n ≤ a → a < n + length names → on a ≡ off a) → names_on on names n ≡ names_on off names n
names_on-same [] on off n same = refl
names_on-same (name ∷ names) on off n same =
    let here : on n ≡ off n = same n (omega arith) (omega arith) in
    let rest : names_on on names (n + 1) ≡ names_on off names (n + 1) = names_on-same names on off (n + 1)
    (λ a low high. same a (omega arith) (omega arith)) in
    rw (here, rest) refl

-- the same outputs make the same line
pub row_line-same : (names : List (List ℕ)) (row : ℕ) (on off : ℕ → Bool)
    → ((a : ℕ) → a < length names → on a ≡ off a) → row_line names row on ≡ row_line names row off
row_line-same names row on off same = ap (λ l. decimal row ++ (or_dash l ++ codes "\n"))
    (names_on-same names on off 0 (λ a low high. same a (omega arith)))
