-- What becomes of the rows in a piece.
use Rattle.std.proofs.Common.{◌≡◌, ◌<◌, ◌≤◌, ◌+◌, ℕ, false, List, [], ◌∷◌, ◌++◌, length, drop, take}
use Rattle.std.proofs.Common.{Some, None, Result, ◌-◌, Ok, Err, refl, sym, ap, subst, ◌∙◌, append-nil, arith}
use Rattle.trace_text.specs.Traces as traces
use Rattle.std.proofs.lemmas.List.{drop-drop, drop_all, length-drop, take_all}
use Rattle.pbs_io.specs.Outside.{SinkState}
use Rattle.pbs_base.specs.declared.entry.Entry.{Entry}
use Rattle.pbs_base.specs.declared.refusal.Refusal.{Refusal}
use Rattle.net_core.specs.Circuits.{Circuit}
use Rattle.trace_text.specs.Headers.{Traced, trace}
use Rattle.trace_text.specs.States.{ReaderState, ReadsRow, rows_from}
use Rattle.trace_text.specs.declared.answers.Phase.TheVariants as phase
use Rattle.trace_text.specs.declared.answers.Row as answers
use Rattle.trace_text.specs.declared.answers.Row.TheVariants as answer
use Rattle.net_trace.specs.declared.fail.RunFail.{RunFail}
use Rattle.net_trace.specs.declared.fail.RunFail.TheVariants as fails
use Rattle.net_trace.specs.declared.report.Report.{Report}
use Rattle.net_trace.specs.inner.Steps.{PieceEnds, Read, Refuses, Shown, ShownInPart, after, entry_in}
use Rattle.net_trace.proofs.TextLemmas.{NextRead, more_read, not_at_end, refused_read, row_read, traced_on}
use Rattle.net_trace.proofs.OutcomeLemmas.{cut_report, refused_report}

-- the rows so far of the bytes `whole`, behind which the piece has these bytes more
pub record PieceSoFar (net : Circuit) (before : SinkState) (whole behind : List ℕ) (reader : ReaderState)
    (report : Report) (now : SinkState) : Type 0 where
  pub entries : List Entry
  pub next : NextRead net.inputs reader whole behind entries
  pub shown : Shown net before entries report now

-- the next row, before its line was added
row_found : (net : Circuit) (before a : SinkState) (whole behind : List ℕ) (s t : ReaderState) (report : Report)
    (used : ℕ) (row : answers.Row) (e : Entry) → (p : PieceSoFar net before whole behind s report a)
    → ReadsRow s t behind false used row → entry_in row ≡ Some e
    → NextRead net.inputs t whole (drop used behind) (p.entries ++ e ∷ [])
row_found net before a whole behind s t report used row e p reads is =
    let n = p.next in
    subst (λ w. NextRead net.inputs t w (drop used behind) (p.entries ++ e ∷ [])) n.whole_is
    (row_read net.inputs s t n.done behind used row p.entries e n.read reads is)

pub row_added : (net : Circuit) (before a b : SinkState) (whole behind : List ℕ) (s t : ReaderState)
    (old new : Report) (used : ℕ) (row : answers.Row) (e : Entry) → PieceSoFar net before whole behind s old a
    → ReadsRow s t behind false used row → entry_in row ≡ Some e
    → ((entries : List Entry) → Shown net before entries old a → Shown net before (entries ++ e ∷ []) new b)
    → PieceSoFar net before whole (drop used behind) t new b
row_added net before a b whole behind s t old new used row e p reads is adds = record {
  entries = p.entries ++ e ∷ [];
  next = row_found net before a whole behind s t old used row e p reads is;
  shown = adds p.entries p.shown;
}

-- the text, whatever follows
whole_traced : (net : Circuit) (t : ReaderState) (whole behind : List ℕ) (entries : List Entry)
    → NextRead net.inputs t whole behind entries → (rest : List ℕ)
    → trace net.inputs (whole ++ rest) ≡ Traced (after entries (rows_from t (behind ++ rest)))
whole_traced net t whole behind entries n rest =
    ap (λ w. trace net.inputs (w ++ rest)) (sym n.whole_is) ∙ traced_on net.inputs t n.done behind entries n.read rest

pub row_cut : (net : Circuit) (before a b : SinkState) (whole behind : List ℕ) (s t : ReaderState) (old new : Report)
    (used : ℕ) (row : answers.Row) (e : Entry) → PieceSoFar net before whole behind s old a
    → ReadsRow s t behind false used row → entry_in row ≡ Some e
    → ((entries : List Entry) → Shown net before entries old a → ShownInPart net before (entries ++ e ∷ []) [] b)
    → PieceEnds net before whole t new b (Err fails.WriteFault)
row_cut net before a b whole behind s t old new used row e p reads is cut =
    let part = cut p.entries p.shown in
    let n = row_found net before a whole behind s t old used row e p reads is in (
      part.later,
      λ rest. (
        part.rose,
        cut_report net before b (whole ++ rest) (p.entries ++ e ∷ [])
            (rows_from t (drop used behind ++ rest)) p.shown.runs
            (whole_traced net t whole (drop used behind) (p.entries ++ e ∷ []) n rest) part,
      ),
    )

-- ---- places in the piece

pub length_left : (n : ℕ) (piece : List ℕ) → length (drop n piece) ≡ length piece - n
length_left n piece = length-drop n piece

pub none_behind : (n : ℕ) (piece : List ℕ) → length piece ≤ n → drop n piece ≡ []
none_behind n piece past = drop_all n piece past

pub drop_twice : (net : Circuit) (before : SinkState) (whole : List ℕ) (n m : ℕ) (piece : List ℕ) (reader : ReaderState)
    (report : Report) (now : SinkState) → PieceSoFar net before whole (drop m (drop n piece)) reader report now
    → PieceSoFar net before whole (drop (n + m) piece) reader report now
drop_twice net before whole n m piece reader report now p =
    subst (λ l. PieceSoFar net before whole l reader report now) (drop-drop m n piece) p

-- what was read of the rest of a piece
pub of_rest : (s t : ReaderState) (n : ℕ) (piece : List ℕ) (used : ℕ) (row : answers.Row)
    → ReadsRow s t (take (length piece - n) (drop n piece)) false used row
    → ReadsRow s t (drop n piece) false used row
of_rest s t n piece used row reads =
    let left = length_left n piece in
    subst (λ l. ReadsRow s t l false used row) (take_all (length piece - n) (drop n piece) (omega arith)) reads

pub good_phase : (s t : ReaderState) (piece : List ℕ) (used : ℕ) (row : answers.Row) (e : Entry)
    → ReadsRow s t piece false used row → entry_in row ≡ Some e → t.phase ≡ phase.Rows
good_phase s t piece used (answer.Vector x) e reads is = reads.phase
good_phase s t piece used answer.Reset e reads is = reads.phase
good_phase s t piece used answer.More e reads is = absurd (cc)
good_phase s t piece used answer.End e reads is = absurd (cc)
good_phase s t piece used (answer.Refused r) e reads is = absurd (cc)

pub left_row : (s t : ReaderState) (piece : List ℕ) (used : ℕ) (row : answers.Row) → None ≡ entry_in row
    → ((r : Refusal) → row ≡ answer.Refused r → ⊥) → ReadsRow s t piece false used row → 0 < length piece
    → ReadsRow s t piece false used answer.More
left_row s t piece used (answer.Vector x) none other reads some = absurd (cc)
left_row s t piece used answer.Reset none other reads some = absurd (cc)
left_row s t piece used answer.More none other reads some = reads
left_row s t piece used answer.End none other reads some = absurd (not_at_end s t piece used some reads)
left_row s t piece used (answer.Refused r) none other reads some = absurd (other r refl)

-- ---- what follows the last row

pub piece_used : (net : Circuit) (before a : SinkState) (whole behind : List ℕ) (s t : ReaderState) (report : Report)
    (used : ℕ) → PieceSoFar net before whole behind s report a → ReadsRow s t behind false used answer.More
    → PieceEnds net before whole t report a (Ok tt)
piece_used net before a whole behind s t report used p reads =
    let n = p.next in (
      p.entries,
      subst (λ w. Read net.inputs t w [] p.entries) n.whole_is
          (more_read net.inputs s t n.done behind used p.entries n.read reads),
      p.shown,
    )

pub piece_empty : (net : Circuit) (before a : SinkState) (whole behind : List ℕ) (s : ReaderState) (report : Report)
    → PieceSoFar net before whole behind s report a → behind ≡ [] → PieceEnds net before whole s report a (Ok tt)
piece_empty net before a whole behind s report p none =
    let n = p.next in (
      p.entries,
      subst (λ w. Read net.inputs s w [] p.entries)
          (sym (append_none n.done behind none) ∙ n.whole_is)
          (subst (λ b. Read net.inputs s n.done b p.entries) none n.read),
      p.shown,
    )
  where
    append_none : (done behind : List ℕ) → behind ≡ [] → done ++ behind ≡ done
    append_none done behind e = ap (λ l. done ++ l) e ∙ append-nil done

pub row_refused : (net : Circuit) (before a b : SinkState) (whole behind : List ℕ) (s t : ReaderState)
    (old new : Report) (used : ℕ) (r : Refusal) (result : Result (Unit {0}) RunFail)
    → PieceSoFar net before whole behind s old a → ReadsRow s t behind false used (answer.Refused r)
    → ((entries : List Entry) → Shown net before entries old a → Refuses net before entries r b result)
    → PieceEnds net before whole t new b result
row_refused net before a b whole behind s t old new used r result p reads refuses =
    cases result (refuses p.entries p.shown)
  where
    traced : (rest : List ℕ)
        → trace net.inputs (whole ++ rest) ≡ Traced (record { entries = p.entries; ending = traces.Refused r })
    traced rest =
        let n = p.next in
        ap (λ w. trace net.inputs (w ++ rest)) (sym n.whole_is)
        ∙ refused_read net.inputs s t n.done behind used p.entries r n.read reads rest

    cases : (result : Result (Unit {0}) RunFail) → Refuses net before p.entries r b result
        → PieceEnds net before whole t new b result
    cases (Ok x) h = absurd h
    cases (Err (fails.Refused q)) h =
        let shown = h.1 in
        subst (λ y. PieceEnds net before whole t new b (Err (fails.Refused y))) (sym h.0)
        (shown.later, λ rest. refused_report net before b (whole ++ rest) p.entries r p.shown.runs (traced rest) shown)
    cases (Err fails.WriteFault) h = (
      h.later,
      λ rest. (
        h.rose,
        cut_report net before b (whole ++ rest) p.entries (rows_from s (behind ++ rest))
            p.shown.runs (whole_traced net s whole behind p.entries p.next rest) h,
      ),
    )
    cases (Err fails.ReadFault) h = absurd h
    cases (Err fails.Memory) h = absurd h
