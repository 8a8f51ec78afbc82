-- The lines of a report, as they are written or held.
use Rattle.std.proofs.Common.{◌≡◌, ◌<◌, ◌≤◌, ◌+◌, ℕ, suc, Bool, false, List, [], ◌∷◌, ◌++◌, length, Result, Ok, Err}
use Rattle.std.proofs.Common.{refl, sym, ap, subst, ◌∙◌, append-nil, arith}
use Rattle.std.specs.Prelude.{slice_index_or, OnOk, OnErr}
use Rattle.std.specs.Io.KnownBytes.{append_known}
use Rattle.pbs_io.specs.Outside.{SinkState, Writes, WritesFront}
use Rattle.pbs_base.specs.declared.entry.Entry.{Entry}
use Rattle.pbs_io.proofs.WrittenLemmas.{append_known-nil}
use Rattle.net_core.specs.Rows.{Row}
use Rattle.net_core.specs.Circuits.{Circuit, IsCircuit, output_gate, output_names}
use Rattle.net_core.specs.Runs.{output_value}
use Rattle.net_eval.specs.States.{State}
use Rattle.net_eval.specs.Simulated.{IsZeroRun, StandsAfter}
use Rattle.trace_text.specs.Held.{Holds, PassesOn}
use Rattle.trace_text.specs.HeldBytes.{held_bytes}
use Rattle.trace_text.specs.Reports.{is_on, end_line, row_line}
use Rattle.trace_text.proofs.HeldLemmas.{HeldUpTo, piece_held, piece_unheld, all_flushed}
use Rattle.trace_text.proofs.ReportLemmas.{row_line-same}
use Rattle.net_trace.specs.Outcomes.{shown_rows}
use Rattle.net_trace.specs.inner.Steps.{IsNew, Shown, ShownInPart, ShownWhole, ShowsLine}
use Rattle.net_trace.specs.declared.report.Report.{Report}
use Rattle.net_trace.proofs.RunLemmas.{front_run, length_more, line_last, output_shown}

-- ---- one line

pub line_shown : {T E : Type 0} (sim : State) (a b : SinkState) (names : List (List ℕ)) (held held_now : List ℕ)
    (row on count : ℕ) (result : Result T E) → names ≡ output_names sim.net → count ≡ length names
    → ((n : ℕ) → n < count → is_on on n ≡ slice_index_or sim.gates (output_gate sim.net n) false)
    → Holds a b held held_now (row_line names row (is_on on)) result → (outputs : ℕ → Bool)
    → ((n : ℕ) → n < length (output_names sim.net)
    → outputs n ≡ slice_index_or sim.gates (output_gate sim.net n) false)
    → Holds a b held held_now (row_line (output_names sim.net) row outputs) result
line_shown sim a b names held held_now row on count result ports is bits put outputs same =
    let longer = ap length ports in
    subst (λ l. Holds a b held held_now l result)
    (ap (λ l. row_line l row (is_on on)) ports
    ∙ row_line-same (output_names sim.net) row (is_on on) outputs
    (λ n less. bits n (omega (arith, less, longer, is)) ∙ sym (same n less)))
    put

-- ---- a row that was made

-- the row was made, and its line is still to come
pub record Due (net : Circuit) (before : SinkState) (entries : List Entry) (report : Report) (now : SinkState) : Type 0
  where
    pub same_net : report.sim.net ≡ net
    pub circuit : IsCircuit net
    pub runs : (v : List Entry) → (rows : ℕ → Row) × IsZeroRun net v rows
    pub count : report.rows ≡ length entries
    pub stands : StandsAfter entries report.sim
    pub later : before.faults ≤ now.faults
    pub passed : (rows : ℕ → Row) → IsZeroRun net entries rows
        → (front : List ℕ) × PassesOn before.written now.written front (held_bytes report.held)
        × (front ++ row_line (output_names net) (length entries) (output_value net (rows (length entries)))
        ≡ shown_rows net rows (length entries))

-- the line that comes is that of the row
line_due : {T E : Type 0} (net : Circuit) (before a b : SinkState) (entries : List Entry) (mid new : Report)
    (rows : ℕ → Row) (result : Result T E) → Due net before entries mid a → IsZeroRun net entries rows
    → ShowsLine mid new a b result
    → Holds a b (held_bytes mid.held) (held_bytes new.held)
    (row_line (output_names net) (length entries) (output_value net (rows (length entries)))) result
line_due net before a b entries mid new rows result due run shows =
    subst (λ k. Holds a b (held_bytes mid.held) (held_bytes new.held)
    (row_line (output_names net) k (output_value net (rows (length entries)))) result) due.count
    (subst (λ (c : Circuit). Holds a b (held_bytes mid.held) (held_bytes new.held)
    (row_line (output_names c) mid.rows (output_value net (rows (length entries)))) result) due.same_net
    (shows.held (output_value net (rows (length entries)))
    (λ n less. output_shown net entries mid.sim rows n due.circuit due.same_net due.stands run less)))

held_so_far : (net : Circuit) (before a : SinkState) (entries : List Entry) (mid : Report) (rows : ℕ → Row)
    → Due net before entries mid a → IsZeroRun net entries rows
    → HeldUpTo before a (shown_rows net rows (length entries))
    (row_line (output_names net) (length entries) (output_value net (rows (length entries))) ++ [])
    (held_bytes mid.held)
held_so_far net before a entries mid rows due run =
    let passed = due.passed rows run in
    record {
      done = passed.0;
      joined = ap (λ l. passed.0 ++ l) (append-nil _) ∙ passed.2;
      passed = passed.1;
      later = due.later;
    }

-- all of a text was written or is held
all_passed : (before now : SinkState) (text held : List ℕ) → HeldUpTo before now text [] held
    → PassesOn before.written now.written text held
all_passed before now text held up =
    subst (λ l. PassesOn before.written now.written l held) (sym (append-nil up.done) ∙ up.joined) up.passed

padded : (a b : SinkState) (text : List ℕ) → WritesFront a.written b.written text
    → WritesFront a.written b.written (text ++ [])
padded a b text w = subst (λ l. WritesFront a.written b.written l) (sym (append-nil text)) w

pub due_shown : {T E : Type 0} (net : Circuit) (before a b : SinkState) (entries : List Entry) (mid new : Report)
    (result : Result T E) → Due net before entries mid a → ShowsLine mid new a b result
    → OnOk result (Shown net before entries new b)
due_shown net before a b entries mid new (Ok x) due shows = record {
  same_net = ap (λ (s : State). s.net) shows.sim ∙ due.same_net;
  circuit = due.circuit;
  runs = due.runs;
  count = shows.rows ∙ due.count;
  stands = subst (λ s. StandsAfter entries s) (sym shows.sim) due.stands;
  later =
      let run = due.runs entries in
      (piece_held before a b (shown_rows net run.0 (length entries)) _ [] _ _ x
      (held_so_far net before a entries mid run.0 due run.1)
      (line_due net before a b entries mid new run.0 (Ok x) due run.1 shows)).later;
  passed = λ rows run.
      all_passed before b (shown_rows net rows (length entries)) (held_bytes new.held)
      (piece_held before a b (shown_rows net rows (length entries)) _ [] _ _ x
      (held_so_far net before a entries mid rows due run)
      (line_due net before a b entries mid new rows (Ok x) due run shows));
}
due_shown net before a b entries mid new (Err e) due shows = tt

pub due_cut : {T E : Type 0} (net : Circuit) (before a b : SinkState) (entries : List Entry) (mid new : Report)
    (result : Result T E) → Due net before entries mid a → ShowsLine mid new a b result
    → OnErr result (ShownInPart net before entries [] b)
due_cut net before a b entries mid new (Ok x) due shows = tt
due_cut {T} {E} net before a b entries mid new (Err e) due shows =
    let cut : (rows : ℕ → Row) → IsZeroRun net entries rows
    → Writes {T = T} {E = E} before b (shown_rows net rows (length entries)) (Err e) = λ rows run.
    piece_unheld {T = T} {U = T} before a b (shown_rows net rows (length entries)) _ [] _ (held_bytes new.held) e e
    (held_so_far net before a entries mid rows due run)
    (line_due net before a b entries mid new rows (Err e) due run shows) in
    record {
      rose = let run = due.runs entries in (cut run.0 run.1).cause;
      later = let run = due.runs entries in (cut run.0 run.1).later;
      front = λ rows run. padded before b (shown_rows net rows (length entries)) (cut rows run).front;
    }

-- ---- row 0

pub row_0_due : (net : Circuit) (old mid : Report) (a : SinkState) → IsNew net old → mid.sim.net ≡ old.sim.net
    → held_bytes mid.held ≡ held_bytes old.held → mid.rows ≡ old.rows → StandsAfter [] mid.sim
    → Due net a [] mid a
row_0_due net old mid a fresh same held rows_same stands = record {
  same_net = same ∙ fresh.same_net;
  circuit = fresh.circuit;
  runs = fresh.runs;
  count = rows_same ∙ fresh.rows;
  stands = stands;
  later = omega arith;
  passed = λ rows run. (
    [],
    record { front = []; whole = held ∙ fresh.held; written = sym (append_known-nil a.written) },
    line_last (output_names net) (λ k. output_value net (rows k)) 0 0 0 (omega arith),
  );
}

-- ---- one row more

pub next_due : (net : Circuit) (before a : SinkState) (entries : List Entry) (x : Entry) (old mid : Report)
    → Shown net before entries old a → mid.sim.net ≡ old.sim.net → held_bytes mid.held ≡ held_bytes old.held
    → mid.rows ≡ old.rows + 1 → StandsAfter (entries ++ x ∷ []) mid.sim → Due net before (entries ++ x ∷ []) mid a
next_due net before a entries x old mid shown same held rows_same stands =
    let longer = length_more entries x in
    record {
      same_net = same ∙ shown.same_net;
      circuit = shown.circuit;
      runs = shown.runs;
      count = let count = shown.count in omega (arith, longer, rows_same, count);
      stands = stands;
      later = shown.later;
      passed = λ rows run.
          let front = front_run net entries (x ∷ []) rows run in (
            shown_rows net rows (length entries),
            subst (λ h. PassesOn before.written a.written (shown_rows net rows (length entries)) h) (sym held)
                (shown.passed rows front),
            subst (λ n. shown_rows net rows (length entries)
                ++ row_line (output_names net) n (output_value net (rows n)) ≡ shown_rows net rows n) (sym longer)
                (line_last (output_names net) (λ k. output_value net (rows k)) 0 (suc (length entries))
                (suc (length entries)) (omega arith)),
          );
    }

-- ---- what is held is written

all_held : (net : Circuit) (before a : SinkState) (entries : List Entry) (report : Report) (rows : ℕ → Row)
    (behind : List ℕ) → Shown net before entries report a → IsZeroRun net entries rows
    → HeldUpTo before a (shown_rows net rows (length entries) ++ behind) behind (held_bytes report.held)
all_held net before a entries report rows behind shown run = record {
  done = shown_rows net rows (length entries);
  joined = refl;
  passed = shown.passed rows run;
  later = shown.later;
}

pub flushed_cut : {T E : Type 0} (net : Circuit) (before a b : SinkState) (entries : List Entry) (old : Report)
    (result : Result T E) → Shown net before entries old a → Writes a b (held_bytes old.held) result
    → OnErr result (ShownInPart net before entries [] b)
flushed_cut net before a b entries old (Ok x) shown put = tt
flushed_cut {T} {E} net before a b entries old (Err e) shown put =
    let cut : (rows : ℕ → Row) → IsZeroRun net entries rows
    → Writes {T = T} {E = E} before b (shown_rows net rows (length entries) ++ []) (Err e) = λ rows run.
    all_flushed {U = Unit {0}} before a b (shown_rows net rows (length entries) ++ []) (held_bytes old.held) tt (Err e)
    (all_held net before a entries old rows [] shown run) put in
    record {
      rose = let run = shown.runs entries in (cut run.0 run.1).cause;
      later = let run = shown.runs entries in (cut run.0 run.1).later;
      front = λ rows run. (cut rows run).front;
    }

pub flushed_whole : {T E : Type 0} (net : Circuit) (before a b : SinkState) (entries : List Entry) (old : Report)
    (result : Result T E) → Shown net before entries old a → Writes a b (held_bytes old.held) result
    → OnOk result (ShownWhole net before entries [] b)
flushed_whole net before a b entries old (Err e) shown put = tt
flushed_whole {T} {E} net before a b entries old (Ok x) shown put =
    let done : (rows : ℕ → Row) → IsZeroRun net entries rows
    → Writes {T = T} {E = E} before b (shown_rows net rows (length entries) ++ []) (Ok x) = λ rows run.
    all_flushed {U = Unit {0}} before a b (shown_rows net rows (length entries) ++ []) (held_bytes old.held) tt (Ok x)
    (all_held net before a entries old rows [] shown run) put in
    record {
      later = let run = shown.runs entries in (done run.0 run.1).later;
      written = λ rows run. (done rows run).whole;
    }

pub flushed_shown : {T E : Type 0} (net : Circuit) (before a b : SinkState) (entries : List Entry) (old new : Report)
    (result : Result T E) → Shown net before entries old a → Writes a b (held_bytes old.held) result
    → new.sim ≡ old.sim → new.rows ≡ old.rows → OnOk result (held_bytes new.held ≡ [])
    → OnOk result (Shown net before entries new b)
flushed_shown net before a b entries old new (Err e) shown put sim rows_same empty = tt
flushed_shown net before a b entries old new (Ok x) shown put sim rows_same empty =
    let whole = flushed_whole net before a b entries old (Ok x) shown put in
    record {
      same_net = ap (λ (s : State). s.net) sim ∙ shown.same_net;
      circuit = shown.circuit;
      runs = shown.runs;
      count = rows_same ∙ shown.count;
      stands = subst (λ s. StandsAfter entries s) (sym sim) shown.stands;
      later = whole.later;
      passed = λ rows run. record {
        front = shown_rows net rows (length entries);
        whole = ap (λ h. shown_rows net rows (length entries) ++ h) empty ∙ append-nil _;
        written = whole.written rows run ∙ ap (append_known before.written) (append-nil _);
      };
    }

-- ---- the last line

with_end : {E : Type 0} (net : Circuit) (before a b : SinkState) (entries : List Entry) (old : Report)
    (held : List ℕ) (rows : ℕ → Row) (x : Unit {0}) → Shown net before entries old a → IsZeroRun net entries rows
    → Holds {E = E} a b (held_bytes old.held) held (end_line old.rows) (Ok x)
    → HeldUpTo before b (shown_rows net rows (length entries) ++ end_line (length entries)) [] held
with_end {E} net before a b entries old held rows x shown run put =
    let line = end_line (length entries) in
    piece_held before a b (shown_rows net rows (length entries) ++ line) line [] (held_bytes old.held) held x
    (subst (λ l. HeldUpTo before a (shown_rows net rows (length entries) ++ line) l (held_bytes old.held))
    (sym (append-nil line)) (all_held net before a entries old rows line shown run))
    (subst (λ n. Holds {E = E} a b (held_bytes old.held) held (end_line n) (Ok x)) shown.count put)

pub end_cut : {T E : Type 0} (net : Circuit) (before a b : SinkState) (entries : List Entry) (old : Report)
    (held : List ℕ) (e : E) → Shown net before entries old a
    → Holds {T = T} a b (held_bytes old.held) held (end_line old.rows) (Err e)
    → ShownInPart net before entries (end_line (length entries)) b
end_cut {T} {E} net before a b entries old held e shown put =
    let line = end_line (length entries) in
    let cut : (rows : ℕ → Row) → IsZeroRun net entries rows
    → Writes {T = T} {E = E} before b (shown_rows net rows (length entries) ++ line) (Err e) =
    λ rows run.
    piece_unheld {T = T} {U = T} before a b (shown_rows net rows (length entries) ++ line) line []
    (held_bytes old.held) held e e
    (subst (λ l. HeldUpTo before a (shown_rows net rows (length entries) ++ line) l (held_bytes old.held))
    (sym (append-nil line)) (all_held net before a entries old rows line shown run))
    (subst (λ n. Holds {T = T} a b (held_bytes old.held) held (end_line n) (Err e)) shown.count put) in
    record {
      rose = let run = shown.runs entries in (cut run.0 run.1).cause;
      later = let run = shown.runs entries in (cut run.0 run.1).later;
      front = λ rows run. (cut rows run).front;
    }

pub ended_whole : {T E F : Type 0} (net : Circuit) (before a b c : SinkState) (entries : List Entry) (old : Report)
    (held : List ℕ) (x : Unit {0}) (result : Result T F) → Shown net before entries old a
    → Holds {E = E} a b (held_bytes old.held) held (end_line old.rows) (Ok x) → Writes b c held result
    → OnOk result (ShownWhole net before entries (end_line (length entries)) c)
ended_whole net before a b c entries old held x (Err f) shown put flushed = tt
ended_whole {T} {E} {F} net before a b c entries old held x (Ok y) shown put flushed =
    let line = end_line (length entries) in
    let done : (rows : ℕ → Row) → IsZeroRun net entries rows
    → Writes {T = T} {E = F} before c (shown_rows net rows (length entries) ++ line) (Ok y) = λ rows run.
    all_flushed before b c (shown_rows net rows (length entries) ++ line) held x (Ok y)
    (with_end {E = E} net before a b entries old held rows x shown run put) flushed in
    record {
      later = let run = shown.runs entries in (done run.0 run.1).later;
      written = λ rows run. (done rows run).whole;
    }

pub ended_cut : {T E F : Type 0} (net : Circuit) (before a b c : SinkState) (entries : List Entry) (old : Report)
    (held : List ℕ) (x : Unit {0}) (result : Result T F) → Shown net before entries old a
    → Holds {E = E} a b (held_bytes old.held) held (end_line old.rows) (Ok x) → Writes b c held result
    → OnErr result (ShownInPart net before entries (end_line (length entries)) c)
ended_cut net before a b c entries old held x (Ok y) shown put flushed = tt
ended_cut {T} {E} {F} net before a b c entries old held x (Err f) shown put flushed =
    let line = end_line (length entries) in
    let cut : (rows : ℕ → Row) → IsZeroRun net entries rows
    → Writes {T = T} {E = F} before c (shown_rows net rows (length entries) ++ line) (Err f) = λ rows run.
    all_flushed before b c (shown_rows net rows (length entries) ++ line) held x (Err f)
    (with_end {E = E} net before a b entries old held rows x shown run put) flushed in
    record {
      rose = let run = shown.runs entries in (cut run.0 run.1).cause;
      later = let run = shown.runs entries in (cut run.0 run.1).later;
      front = λ rows run. (cut rows run).front;
    }
