-- A reader takes a byte of a row, or the end of the text.
use Rattle.std.proofs.Common.{◌≡◌, ℕ, ◌+◌, ◌-◌, ◌<◌, ◌≤◌, true, false, nat_eq, List, [], ◌∷◌, ◌++◌, length, refl}
use Rattle.std.proofs.Common.{sym, ap, ◌∙◌, arith, add-zero}
use Rattle.std.proofs.lemmas.Bool.{ne_eqb, eqb-true}
use Rattle.pbs_base.specs.declared.entry.Entry.{Entry}
use Rattle.pbs_base.specs.declared.entry.Entry.TheVariants as entries
use Rattle.trace_text.specs.Traces.{Good, Wrong, entry, followed, lines, no_rows, refused, right, rows, Rows}
use Rattle.trace_text.specs.Steps.{whole, Wants}
use Rattle.trace_text.specs.States.{BegunAfter, IsInRow, ReaderState, row_then, state_of, row_phase}
use Rattle.trace_text.specs.inner.Calls.{ByteFor, EndsText, IsAnswer, TakesByte, row_of}
use Rattle.trace_text.specs.declared.answers.Phase.TheVariants as phase
use Rattle.trace_text.specs.declared.answers.Row.{Row}
use Rattle.trace_text.specs.declared.answers.Row.TheVariants as answer
use Rattle.trace_text.proofs.RowLemmas.{right_few, right_newline}
use Rattle.trace_text.proofs.StepLemmas.{byte_ended, byte_long, byte_more, byte_wrong, end_good, end_short}

pub takes_long : (t now : ReaderState) (c used : ℕ) (row : Row) → used ≡ t.used → IsInRow t → used ≡ 67108864
    → row ≡ answer.Refused (refused 1 67108864 67108865) → now ≡ state_of t.ports phase.Done t.used t.begun t.order
    → TakesByte t now c row
takes_long t now c used row at begun full is new = rw (is, new) (record {
  gives = λ rest. byte_long t.order t.used t.begun c rest no_rows begun.used begun.right (sym at ∙ full);
  ports = refl;
  order = refl;
  phase = refl;
  byte = tt;
  begun = tt;
})

pub takes_wrong : (t now : ReaderState) (c used : ℕ) (row : Row) → used ≡ t.used → IsInRow t → (used ≡ 67108864 → ⊥)
    → Wants (length t.order) t.begun c false → (c ≡ 10 → whole (length t.order) t.begun ≡ false)
    → row ≡ answer.Refused (refused 3 used (used + 1)) → now ≡ state_of t.ports phase.Done t.used t.begun t.order
    → TakesByte t now c row
takes_wrong t now c used row at begun few wrong part is new =
    let most : t.used ≤ 67108864 = begun.within in
    let below : t.used < 67108864 = omega (arith, few, most, at) in
    rw (is, new) (record {
      gives = λ rest. byte_wrong t.order t.used t.begun c rest no_rows begun.used begun.right below wrong
          (λ e. part (eqb-true c 10 e)) ∙ ap (λ u. followed (Wrong (refused 3 u (u + 1))) no_rows) (sym at);
      ports = refl;
      order = refl;
      phase = refl;
      byte = tt;
      begun = tt;
    })

digit_inside : (n : ℕ) (b : List ℕ) (c : ℕ) → right n b ≡ length b → Wants n b c true → nat_eq c 10 ≡ false
digit_inside n b c good wants = ne_eqb c 10 (λ e. clash e)
  where
    clash : c ≡ 10 → ⊥
    clash e = let stop : right n (b ++ c ∷ []) ≡ length b = ap (λ d. right n (b ++ d ∷ [])) e ∙ right_newline n b []
        good in omega (arith, stop, wants)

pub takes_more : (t now : ReaderState) (c : ℕ) (row : Row) → IsInRow t → Wants (length t.order) t.begun c true
    → row ≡ answer.More → now ≡ state_of t.ports phase.Rows (t.used + 1) (t.begun ++ c ∷ []) t.order
    → TakesByte t now c row
takes_more t now c row begun wants is new = rw (is, new) (record {
  gives = λ rest. byte_more t.order t.used t.begun c rest begun.used;
  ports = refl;
  order = refl;
  phase = refl;
  byte = (digit_inside (length t.order) t.begun c begun.right wants, refl);
  begun = tt;
})

row_answer : (e : Entry) (behind : Rows) → followed (Good e) behind ≡ row_then (row_of e) behind
row_answer (entries.Vector x) behind = refl
row_answer entries.Reset behind = refl

phase_answer : (e : Entry) → phase.Rows ≡ row_phase (row_of e)
phase_answer (entries.Vector x) = refl
phase_answer entries.Reset = refl

byte_answer : (e : Entry) (before now : ReaderState) (c : ℕ) → c ≡ 10 → now.used ≡ before.used + 1
    → ByteFor (row_of e) before now c
byte_answer (entries.Vector x) before now c h k = (h, k)
byte_answer entries.Reset before now c h k = (h, k)

begun_answer : (e : Entry) (now : ReaderState) → now.begun ≡ [] → BegunAfter (row_of e) now
begun_answer (entries.Vector x) now h = h
begun_answer entries.Reset now h = h

is_answer : (e : Entry) → IsAnswer (row_of e)
is_answer (entries.Vector x) = tt
is_answer entries.Reset = tt

pub takes_end : (t now : ReaderState) (c used : ℕ) (row : Row) → used ≡ t.used → IsInRow t → (used ≡ 67108864 → ⊥)
    → c ≡ 10 → whole (length t.order) t.begun ≡ true → row ≡ row_of (entry t.order t.begun)
    → now ≡ state_of t.ports phase.Rows (t.used + 1) [] t.order → TakesByte t now c row
takes_end t now c used row at begun few newline all is new =
    let most : t.used ≤ 67108864 = begun.within in
    let below : t.used < 67108864 = omega (arith, few, most, at) in
    rw (is, new) (record {
      gives = λ rest. ap (λ d. rows t.order (t.used - length t.begun) (lines (t.begun ++ d ∷ rest))) newline ∙
          (byte_ended t.order t.used t.begun rest begun.used begun.right below all ∙ row_answer
          (entry t.order t.begun) _);
      ports = refl;
      order = refl;
      phase = phase_answer (entry t.order t.begun);
      byte = byte_answer (entry t.order t.begun) t (state_of t.ports phase.Rows (t.used + 1) [] t.order) c newline refl;
      begun = begun_answer (entry t.order t.begun) _ refl;
    })

-- ---- the end of the text

pub ends_none : (t now : ReaderState) (row : Row) → true ≡ nat_eq (length t.begun) 0 → row ≡ answer.End
    → now ≡ state_of t.ports phase.Done t.used t.begun t.order → EndsText t now row
ends_none t now row none is new = rw (is, new) (record {
  gives = ap (λ b. rows t.order (t.used - length b) (lines (b ++ [])))
      (empty t.begun (eqb-true (length t.begun) 0 (sym none)));
  ports = refl;
  order = refl;
  phase = refl;
  used = refl;
  ended = tt;
  begun = tt;
})
  where
    empty : (b : List ℕ) → length b ≡ 0 → b ≡ []
    empty [] h = refl
    empty (x ∷ b) h = absurd (omega arith)

some_begun : (b : List ℕ) → false ≡ nat_eq (length b) 0 → 0 < length b
some_begun [] h = absurd (cc)
some_begun (x ∷ b) h = omega arith

same_count : (t now : ReaderState) → now ≡ state_of t.ports phase.Rows (t.used + 0) [] t.order
    → now ≡ state_of t.ports phase.Rows t.used [] t.order
same_count t now new = new ∙ ap (λ u. state_of t.ports phase.Rows u [] t.order) (add-zero t.used)

pub ends_good : (t now : ReaderState) (row : Row) → IsInRow t → false ≡ nat_eq (length t.begun) 0
    → true ≡ whole (length t.order) t.begun → row ≡ row_of (entry t.order t.begun)
    → now ≡ state_of t.ports phase.Rows (t.used + 0) [] t.order → EndsText t now row
ends_good t now row begun some all is new =
    let same : now ≡ state_of t.ports phase.Rows t.used [] t.order = same_count t now new in
    rw (is, same) (record {
      gives = end_good t.order t.used t.begun (some_begun t.begun some) begun.used begun.right begun.within (sym all)
          ∙ row_answer (entry t.order t.begun) no_rows;
      ports = refl;
      order = refl;
      phase = phase_answer (entry t.order t.begun);
      used = refl;
      ended = is_answer (entry t.order t.begun);
      begun = begun_answer (entry t.order t.begun) _ refl;
    })

pub ends_short : (t now : ReaderState) (used : ℕ) (row : Row) → used ≡ t.used → IsInRow t
    → false ≡ nat_eq (length t.begun) 0 → false ≡ whole (length t.order) t.begun
    → row ≡ answer.Refused (refused 3 used used) → now ≡ state_of t.ports phase.Done t.used t.begun t.order
    → EndsText t now row
ends_short t now used row at begun some part is new = rw (is, new) (record {
  gives = end_short t.order t.used t.begun no_rows (some_begun t.begun some) begun.used begun.right begun.within
      (sym part) ∙ ap (λ u. followed (Wrong (refused 3 u u)) no_rows) (sym at);
  ports = refl;
  order = refl;
  phase = refl;
  used = refl;
  ended = tt;
  begun = tt;
})

-- a reader has room for what is wanted
pub wanted_short : (t : ReaderState) (c : ℕ) → IsInRow t → Wants (length t.order) t.begun c true → length t.begun < 64
wanted_short t c begun wants = let few : right (length t.order) (t.begun ++ c ∷ []) ≤ 64 = right_few (length t.order)
    (t.begun ++ c ∷ []) begun.few in omega (arith, few, wants)
