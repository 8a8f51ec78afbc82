-- What is known of a trace as its rows are read.
use Rattle.std.proofs.Common.{◌≡◌, ◌<◌, ◌+◌, ◌-◌, ℕ, zero, suc, Bool, true, false, nat_eq, ◌||◌, List, [], ◌∷◌, ◌++◌}
use Rattle.std.proofs.Common.{length, drop, Some, refl, sym, ap, subst, ◌∙◌, append_assoc, append-nil}
use Rattle.std.proofs.Common.{length-append, arith}
use Rattle.std.proofs.lemmas.Bool.Decides.{nat_tests}
use Rattle.std.proofs.lemmas.Option.{same_Some}
use Rattle.std.proofs.lemmas.List.{drop_all}
use Rattle.std.proofs.Math.Seq.{drop-nil}
use Rattle.pbs_base.specs.declared.entry.Entry.{Entry}
use Rattle.pbs_base.specs.declared.entry.Entry.TheVariants.{Vector, Reset}
use Rattle.pbs_base.specs.declared.refusal.Refusal.{Refusal}
use Rattle.trace_text.specs.Traces.{Ending, End, Refused}
use Rattle.trace_text.specs.Traces.{Found, Good, Wrong, Rows, first_line, followed, lines, no_rows, row, rows}
use Rattle.trace_text.specs.Headers.{Trace, NoHeader, Traced, trace}
use Rattle.trace_text.specs.States.{ReaderState, ReadsRow, has_newline, rows_from}
use Rattle.trace_text.specs.declared.answers.Row as answers
use Rattle.trace_text.specs.declared.answers.Row.TheVariants as answer
use Rattle.trace_text.proofs.LineLemmas.{first_open, lines_begun, lines_ended}
use Rattle.net_trace.specs.inner.Steps.{Read, ReadAll, after, entry_in}

-- ---- rows

abbrev made : List Entry → Ending → Rows
made entries ending = record { entries = entries; ending = ending }

pub rows_same : (x y : Rows) → x.entries ≡ y.entries → x.ending ≡ y.ending → x ≡ y
rows_same x y p q = ap (λ es. made es x.ending) p ∙ ap (made y.entries) q

abbrev rows_of : Trace → Rows
rows_of (NoHeader r) = no_rows
rows_of (Traced rows) = rows

pub traced_same : (x y : Rows) → Traced x ≡ Traced y → x ≡ y
traced_same x y h = ap rows_of h

abbrev tail_of : List Entry → List Entry
tail_of [] = []
tail_of (x ∷ xs) = xs

abbrev head_of : List Entry → Entry
head_of [] = Reset
head_of (x ∷ xs) = x

-- what a good row was
pub good_same : (f : Found) (x y : Rows) (e : Entry) → followed f x ≡ followed (Good e) y → (f ≡ Good e) × (x ≡ y)
good_same (Good d) x y e h =
    let es = ap (λ (r : Rows). r.entries) h in
    (ap (λ xs. Good (head_of xs)) es, rows_same x y (ap tail_of es) (ap (λ (r : Rows). r.ending) h))
good_same (Wrong r) x y e h = absurd (let es = ap (λ (s : Rows). s.entries) h in cc)

-- ---- the first line of a piece

pub record Cut (piece : List ℕ) : Type 0 where
  pub line : List ℕ
  pub behind : List ℕ
  pub is : piece ≡ line ++ 10 ∷ behind
  pub open_line : has_newline line ≡ false
  pub long : length (first_line piece) ≡ length line + 1

ten : (c : ℕ) → nat_eq c 10 ≡ true → c ≡ 10
ten c h = grind (arith, nat_tests)

pub cut : (piece : List ℕ) → has_newline piece ≡ true → Cut piece
cut [] h = absurd (cc)
cut (c ∷ piece) h = step (nat_eq c 10) refl h (λ g. cut piece g)
  where
    step : (n : Bool) → nat_eq c 10 ≡ n → (n || has_newline piece) ≡ true → (has_newline piece ≡ true → Cut piece)
        → Cut (c ∷ piece)
    step true e h more = record {
      line = [];
      behind = piece;
      is = ap (λ d. d ∷ piece) (ten c e);
      open_line = refl;
      long = rw e refl;
    }
    step false e h more =
        let rest = more h in
        let long = rest.long in
        record {
          line = c ∷ rest.line;
          behind = rest.behind;
          is = ap (λ l. c ∷ l) rest.is;
          open_line = ap (λ b. b || has_newline rest.line) e ∙ rest.open_line;
          long = rw e (omega (arith, long));
        }

pub open_append : (a b : List ℕ) → has_newline a ≡ false → has_newline b ≡ false → has_newline (a ++ b) ≡ false
open_append [] b p q = q
open_append (x ∷ a) b p q = step (nat_eq x 10) (has_newline a) p (λ r. open_append a b r q)
  where
    step : (n m : Bool) → (n || m) ≡ false → (m ≡ false → has_newline (a ++ b) ≡ false)
        → (n || has_newline (a ++ b)) ≡ false
    step true m p f = absurd (cc)
    step false m p f = f p

pub drop_line : (line behind : List ℕ) (n : ℕ) → n ≡ length line + 1 → drop n (line ++ 10 ∷ behind) ≡ behind
drop_line [] behind zero e = absurd (omega arith)
drop_line [] behind (suc zero) e = refl
drop_line [] behind (suc (suc n)) e = absurd (omega arith)
drop_line (x ∷ line) behind zero e = absurd (omega arith)
drop_line (x ∷ line) behind (suc n) e = drop_line line behind n (omega arith)

-- ---- one good row

record RowRead (s t : ReaderState) (piece : List ℕ) (used : ℕ) (e : Entry) : Type 0 where
  pub gives : (rest : List ℕ)
      → rows_from s (piece ++ rest) ≡ followed (Good e) (rows_from t (drop used piece ++ rest))
  pub newline : has_newline piece ≡ true
  pub line : used ≡ length (first_line piece)
  pub count : t.used ≡ s.used + used

on_rest : (rest : List ℕ) → false ≡ true → rest ≡ []
on_rest rest h = absurd (cc)

good_row : (s t : ReaderState) (piece : List ℕ) (used : ℕ) (row : answers.Row) (e : Entry)
    → ReadsRow s t piece false used row → entry_in row ≡ Some e → RowRead s t piece used e
good_row s t piece used (answer.Vector x) e reads is = subst (RowRead s t piece used)
    (same_Some (Vector x) e is) (record {
      gives = λ rest. reads.gives rest (on_rest rest);
      newline = reads.line.newline refl;
      line = reads.bytes.line;
      count = reads.bytes.count;
    })
good_row s t piece used answer.Reset e reads is = subst (RowRead s t piece used) (same_Some Reset e is) (record {
  gives = λ rest. reads.gives rest (on_rest rest);
  newline = reads.line.newline refl;
  line = reads.bytes.line;
  count = reads.bytes.count;
})
good_row s t piece used answer.More e reads is = absurd (cc)
good_row s t piece used answer.End e reads is = absurd (cc)
good_row s t piece used (answer.Refused r) e reads is = absurd (cc)

-- (a (b 10 q)) x in two ways
joined : (a b q x : List ℕ) → a ++ ((b ++ 10 ∷ q) ++ x) ≡ (a ++ b) ++ 10 ∷ (q ++ x)
joined a b q x = ap (λ l. a ++ l) (append_assoc b (10 ∷ q) x) ∙ sym (append_assoc a b (10 ∷ (q ++ x)))

first_rows : (order begun line behind : List ℕ) (at : ℕ) → has_newline begun ≡ false → has_newline line ≡ false
    → (x : List ℕ) → rows order at (lines (begun ++ ((line ++ 10 ∷ behind) ++ x)))
    ≡ followed (row order at ((begun ++ line) ++ 10 ∷ []))
    (rows order (at + length ((begun ++ line) ++ 10 ∷ [])) (lines (behind ++ x)))
first_rows order begun line behind at p q x =
    ap (λ l. rows order at (lines l)) (joined begun line behind x)
    ∙ ap (rows order at) (lines_ended (begun ++ line) (behind ++ x) (open_append begun line p q))

-- a row's line was read, behind which the next begins
pub record NextRead (ports : List (List ℕ)) (t : ReaderState) (whole behind : List ℕ) (entries : List Entry) : Type 0
  where
    pub done : List ℕ
    pub read : Read ports t done behind entries
    pub whole_is : done ++ behind ≡ whole

pub record Grows (s t : ReaderState) (piece : List ℕ) (used : ℕ) : Type 0 where
  pub used_is : t.used ≡ s.used + used
  pub some : 0 < used

pub row_grows : (s t : ReaderState) (piece : List ℕ) (used : ℕ) (row : answers.Row) (e : Entry)
    → ReadsRow s t piece false used row → entry_in row ≡ Some e → Grows s t piece used
row_grows s t piece used row e reads is =
    let r = good_row s t piece used row e reads is in
    let c = cut piece r.newline in
    record { used_is = r.count; some = (let l = r.line in let m = c.long in omega arith) }

record Facts (ports : List (List ℕ)) (s t : ReaderState) (done piece : List ℕ) (used : ℕ) (entries : List Entry)
    (e : Entry) : Type 0 where
  pub r : Read ports s done piece entries
  pub g : RowRead s t piece used e

-- the line of the row, and what stands in front of it
abbrev line_of : (ports : List (List ℕ)) (s t : ReaderState) (done piece : List ℕ) (used : ℕ) (entries : List Entry)
    (e : Entry) → Facts ports s t done piece used entries e → List ℕ
line_of ports s t done piece used entries e f = f.r.begun ++ (cut piece f.g.newline).line

rows_read : (ports : List (List ℕ)) (s t : ReaderState) (done piece : List ℕ) (used : ℕ) (entries : List Entry)
    (e : Entry) (f : Facts ports s t done piece used entries e) (x : List ℕ)
    → (row f.r.order (length (f.r.front ++ 10 ∷ [])) (line_of ports s t done piece used entries e f ++ 10 ∷ [])
    ≡ Good e)
    × (rows f.r.order (length (f.r.front ++ 10 ∷ [])
    + length (line_of ports s t done piece used entries e f ++ 10 ∷ []))
    (lines ((cut piece f.g.newline).behind ++ x)) ≡ rows_from t (drop used piece ++ x))
rows_read ports s t done piece used entries e f x =
    let c = cut piece f.g.newline in
    let at = length (f.r.front ++ 10 ∷ []) in
    good_same _ _ _ e
    (sym (first_rows f.r.order f.r.begun c.line c.behind at f.r.open_line c.open_line x)
    ∙ (ap (λ p. rows f.r.order at (lines (f.r.begun ++ (p ++ x)))) (sym c.is)
    ∙ (sym (f.r.same x) ∙ f.g.gives x)))

-- the entries and one more, before the rows that follow
after_more : (entries : List Entry) (e : Entry) (behind : Rows)
    → after entries (followed (Good e) behind) ≡ after (entries ++ e ∷ []) behind
after_more entries e behind =
    ap (λ es. made es behind.ending) (sym (append_assoc entries (e ∷ []) behind.entries))

pub row_read : (ports : List (List ℕ)) (s t : ReaderState) (done piece : List ℕ) (used : ℕ) (row : answers.Row)
    (entries : List Entry) (e : Entry) → Read ports s done piece entries → ReadsRow s t piece false used row
    → entry_in row ≡ Some e → NextRead ports t (done ++ piece) (drop used piece) (entries ++ e ∷ [])
row_read ports s t done piece used row_found entries e r reads is =
    let g = good_row s t piece used row_found e reads is in
    let f : Facts ports s t done piece used entries e = record { r = r; g = g } in
    let c = cut piece g.newline in
    let head = r.front ++ 10 ∷ [] in
    let line = (r.begun ++ c.line) ++ 10 ∷ [] in
    let front = head ++ (r.begun ++ c.line) in
    let whole : front ++ 10 ∷ [] ≡ head ++ line = append_assoc head (r.begun ++ c.line) (10 ∷ []) in
    let longer : length (front ++ 10 ∷ []) ≡ length head + length line =
    ap length whole ∙ length-append head line in
    let behind : drop used piece ≡ c.behind =
    ap (drop used) c.is ∙ drop_line c.line c.behind used (g.line ∙ c.long) in
    let good = (rows_read ports s t done piece used entries e f []).0 in
    record {
      done = front ++ 10 ∷ [];
      read = record {
        front = front;
        begun = [];
        order = r.order;
        split = sym (append-nil (front ++ 10 ∷ []));
        open_line = refl;
        runs = λ x.
            ap (λ l. trace ports (l ++ x)) whole
            ∙ (ap (trace ports) (append_assoc head line x)
            ∙ (r.runs (line ++ x)
            ∙ ap Traced
            (ap (λ l. after entries (rows r.order (length head) (lines l)))
            (append_assoc (r.begun ++ c.line) (10 ∷ []) x)
            ∙ (ap (λ ls. after entries (rows r.order (length head) ls))
            (lines_ended (r.begun ++ c.line) x (open_append r.begun c.line r.open_line c.open_line))
            ∙ (ap (λ h. after entries (followed h (rows r.order (length head + length line) (lines x)))) good
            ∙ (after_more entries e (rows r.order (length head + length line) (lines x))
            ∙ ap (λ n. after (entries ++ e ∷ []) (rows r.order n (lines x))) (sym longer)))))));
        same = λ x.
            sym (rows_read ports s t done piece used entries e f x).1
            ∙ (ap (λ l. rows r.order (length head + length line) (lines (l ++ x))) (sym behind)
            ∙ ap (λ n. rows r.order n (lines (drop used piece ++ x))) (sym longer));
        used =
            let a = ap length r.split in let b = length-append head r.begun in
            let d = length-append (r.begun ++ c.line) (10 ∷ []) in let h = length-append r.begun c.line in
            let u = g.count in let l = g.line in let m = c.long in let v = r.used in
            omega (arith, longer);
      };
      whole_is =
          ap (λ l. l ++ drop used piece) whole
          ∙ (ap (λ l. (head ++ line) ++ l) behind
          ∙ (append_assoc head line c.behind
          ∙ (ap (λ l. head ++ l) (append_assoc (r.begun ++ c.line) (10 ∷ []) c.behind
          ∙ append_assoc r.begun c.line (10 ∷ c.behind))
          ∙ (sym (append_assoc head r.begun (c.line ++ 10 ∷ c.behind))
          ∙ (ap (λ l. l ++ (c.line ++ 10 ∷ c.behind)) (sym r.split)
          ∙ ap (λ l. done ++ l) (sym c.is))))));
    }

-- ---- what follows the last row in a piece

pub more_grows : (s t : ReaderState) (piece : List ℕ) (used : ℕ) → ReadsRow s t piece false used answer.More
    → t.used ≡ s.used + length piece
more_grows s t piece used reads =
    let line = reads.bytes.0.line in
    let count = reads.bytes.0.count in
    let long = first_open piece reads.bytes.1.open_line in
    omega arith

none_left : (s t : ReaderState) (piece : List ℕ) (used : ℕ) → ReadsRow s t piece false used answer.More
    → drop used piece ≡ []
none_left s t piece used reads =
    let line = reads.bytes.0.line in
    let long = first_open piece reads.bytes.1.open_line in
    drop_all used piece (omega arith)

pub more_read : (ports : List (List ℕ)) (s t : ReaderState) (done piece : List ℕ) (used : ℕ) (entries : List Entry)
    → Read ports s done piece entries → ReadsRow s t piece false used answer.More
    → Read ports t (done ++ piece) [] entries
more_read ports s t done piece used entries r reads =
    let head = r.front ++ 10 ∷ [] in
    record {
      front = r.front;
      begun = r.begun ++ piece;
      order = r.order;
      split = ap (λ l. l ++ piece) r.split ∙ append_assoc head r.begun piece;
      open_line = open_append r.begun piece r.open_line reads.bytes.1.open_line;
      runs = r.runs;
      same = λ x.
          ap (λ l. rows_from t (l ++ x)) (sym (none_left s t piece used reads))
          ∙ (sym (reads.gives x (on_rest x))
          ∙ (r.same x ∙ ap (λ l. rows r.order (length head) (lines l)) (sym (append_assoc r.begun piece x))));
      used =
          let u = more_grows s t piece used reads in let v = r.used in let l = length-append done piece in
          omega arith;
    }

-- the text as it was read, whatever follows
pub traced_on : (ports : List (List ℕ)) (s : ReaderState) (done piece : List ℕ) (entries : List Entry)
    → Read ports s done piece entries → (rest : List ℕ)
    → trace ports ((done ++ piece) ++ rest) ≡ Traced (after entries (rows_from s (piece ++ rest)))
traced_on ports s done piece entries r rest =
    let head = r.front ++ 10 ∷ [] in
    ap (trace ports) (append_assoc done piece rest ∙ (ap (λ l. l ++ (piece ++ rest)) r.split
    ∙ append_assoc head r.begun (piece ++ rest)))
    ∙ (r.runs (r.begun ++ (piece ++ rest)) ∙ ap (λ x. Traced (after entries x)) (sym (r.same rest)))

pub refused_read : (ports : List (List ℕ)) (s t : ReaderState) (done piece : List ℕ) (used : ℕ) (entries : List Entry)
    (refusal : Refusal) → Read ports s done piece entries → ReadsRow s t piece false used (answer.Refused refusal)
    → (rest : List ℕ) → trace ports ((done ++ piece) ++ rest) ≡ Traced (made entries (Refused refusal))
refused_read ports s t done piece used entries refusal r reads rest =
    traced_on ports s done piece entries r rest
    ∙ ap Traced (ap (after entries) (reads.gives rest (on_rest rest))
    ∙ ap (λ es. made es (Refused refusal)) (append-nil entries))

-- some row or refusal stands where some byte stands
rows_some : (order : List ℕ) (at c : ℕ) (text : List ℕ) → rows order at (lines (c ∷ text)) ≡ no_rows → ⊥
rows_some order at c text h =
    let b = lines_begun [] c text refl in
    some (row order at (((c ∷ []) ++ b.more))) (rows order (at + length ((c ∷ []) ++ b.more)) b.others)
    (ap (rows order at) (sym b.is) ∙ h)
  where
    some : (f : Found) (x : Rows) → followed f x ≡ no_rows → ⊥
    some (Good e) x h = let es = ap (λ (r : Rows). r.entries) h in cc
    some (Wrong r) x h = let end = ap (λ (r : Rows). r.ending) h in cc

pub not_at_end : (s t : ReaderState) (piece : List ℕ) (used : ℕ) → 0 < length piece
    → ReadsRow s t piece false used answer.End → ⊥
not_at_end s t [] used some reads = absurd (omega arith)
not_at_end s t (c ∷ piece) used some reads = none s.begun refl
  where
    none : (begun : List ℕ) → s.begun ≡ begun → ⊥
    none [] e = rows_some s.order (s.used - length s.begun) c (piece ++ [])
        (ap (λ b. rows s.order (s.used - length s.begun) (lines (b ++ (c ∷ piece ++ [])))) (sym e)
        ∙ reads.gives [] (on_rest []))
    none (x ∷ begun) e = rows_some s.order (s.used - length s.begun) x (begun ++ (c ∷ piece ++ []))
        (ap (λ b. rows s.order (s.used - length s.begun) (lines (b ++ (c ∷ piece ++ [])))) (sym e)
        ∙ reads.gives [] (on_rest []))

-- ---- the end of the text

pub all_read : (ports : List (List ℕ)) (s : ReaderState) (done : List ℕ) (entries : List Entry)
    → Read ports s done [] entries → ReadAll ports s done entries
all_read ports s done entries r = record {
  follows = ap (trace ports) (sym (append-nil done) ∙ ap (λ l. l ++ []) (sym (append-nil done)))
      ∙ traced_on ports s done [] entries r [];
}

-- the next piece of the text
pub read_on : (ports : List (List ℕ)) (s : ReaderState) (done piece : List ℕ) (entries : List Entry)
    → Read ports s done [] entries → Read ports s done piece entries
read_on ports s done piece entries r = record {
  front = r.front;
  begun = r.begun;
  order = r.order;
  split = r.split;
  open_line = r.open_line;
  runs = r.runs;
  same = λ x. r.same (piece ++ x);
  used = r.used;
}

no_bytes : (used : ℕ) → ◌≡◌ {A = List ℕ} (drop used []) []
no_bytes used = drop-nil used

pub end_traced : (ports : List (List ℕ)) (s t : ReaderState) (done : List ℕ) (used : ℕ) (entries : List Entry)
    → ReadAll ports s done entries → ReadsRow s t [] true used answer.End
    → trace ports done ≡ Traced (made entries End)
end_traced ports s t done used entries r reads =
    r.follows
    ∙ ap Traced (ap (after entries) (reads.gives [] (λ h. refl)) ∙ ap (λ es. made es End) (append-nil entries))

pub last_refused : (ports : List (List ℕ)) (s t : ReaderState) (done : List ℕ) (used : ℕ) (entries : List Entry)
    (refusal : Refusal) → ReadAll ports s done entries → ReadsRow s t [] true used (answer.Refused refusal)
    → trace ports done ≡ Traced (made entries (Refused refusal))
last_refused ports s t done used entries refusal r reads =
    r.follows
    ∙ ap Traced (ap (after entries) (reads.gives [] (λ h. refl))
    ∙ ap (λ es. made es (Refused refusal)) (append-nil entries))

none_behind : (t : ReaderState) → t.begun ≡ [] → (used : ℕ) → rows_from t (drop used [] ++ []) ≡ no_rows
none_behind t begun used =
    ap (λ l. rows_from t (l ++ [])) (no_bytes used)
    ∙ ap (λ b. rows t.order (t.used - length t.begun) (lines (b ++ []))) begun

last_good : (s t : ReaderState) (used : ℕ) (row : answers.Row) (e : Entry) → ReadsRow s t [] true used row
    → entry_in row ≡ Some e → rows_from s [] ≡ made (e ∷ []) End
last_good s t used (answer.Vector x) e reads is =
    reads.gives [] (λ h. refl) ∙ (ap (followed (Good (Vector x))) (none_behind t reads.line.begun used)
    ∙ ap (λ d. made (d ∷ []) End) (same_Some (Vector x) e is))
last_good s t used answer.Reset e reads is =
    reads.gives [] (λ h. refl) ∙ (ap (followed (Good Reset)) (none_behind t reads.line.begun used)
    ∙ ap (λ d. made (d ∷ []) End) (same_Some Reset e is))
last_good s t used answer.More e reads is = absurd (cc)
last_good s t used answer.End e reads is = absurd (cc)
last_good s t used (answer.Refused r) e reads is = absurd (cc)

pub last_traced : (ports : List (List ℕ)) (s t : ReaderState) (done : List ℕ) (used : ℕ) (row : answers.Row)
    (entries : List Entry) (e : Entry) → ReadAll ports s done entries → ReadsRow s t [] true used row
    → entry_in row ≡ Some e → trace ports done ≡ Traced (made (entries ++ e ∷ []) End)
last_traced ports s t done used row entries e r reads is =
    r.follows ∙ ap (λ x. Traced (after entries x)) (last_good s t used row e reads is)

pub not_more : (s t : ReaderState) (used : ℕ) → ReadsRow s t [] true used answer.More → ⊥
not_more s t used reads = let h = reads.bytes.1.goes_on in cc
