-- What was written, as the outcome of a netlist on a trace.
use Rattle.std.proofs.Common.{◌≡◌, ℕ, List, [], ◌∷◌, ◌++◌, length, Some, None, refl, sym, ap, ◌∙◌}
use Rattle.std.proofs.Common.{append_assoc, append-nil, length-append, inl, inr, arith}
use Rattle.std.specs.Io.KnownBytes.{append_known}
use Rattle.pbs_io.specs.Outside.{SinkState, WritesFront}
use Rattle.pbs_base.specs.declared.entry.Entry.{Entry}
use Rattle.pbs_base.specs.declared.refusal.Refusal.{Refusal}
use Rattle.pbs_io.proofs.WrittenLemmas.{append_known-nil}
use Rattle.net_core.specs.Rows.{Row}
use Rattle.net_core.specs.Circuits.{Circuit}
use Rattle.net_eval.specs.Simulated.{IsZeroRun}
use Rattle.trace_text.specs.Reports.{end_line}
use Rattle.trace_text.specs.Traces.{Ending, End, Refused}
use Rattle.trace_text.specs.Traces.{Rows}
use Rattle.trace_text.specs.Headers.{NoHeader, Traced, trace}
use Rattle.trace_text.specs.States.{IsInRow, ReaderState}
use Rattle.net_trace.specs.Outcomes.{NetGives, OnHeader, OnRows, Outcome, ended, shown_rows}
use Rattle.net_trace.specs.Endings.{CutShort, Wrote, lines_of, lines_with}
use Rattle.net_trace.specs.Taken.{HasRows, InRows, NetRows, Stops}
use Rattle.net_trace.specs.inner.Steps.{Read, ShownInPart, ShownWhole, after}
use Rattle.net_trace.proofs.RunLemmas.{front_run, shown_front}
use Rattle.net_trace.proofs.BreakLemmas.{broken_behind}
use Rattle.net_trace.proofs.TextLemmas.{traced_on, traced_same}

abbrev pub Runs : Circuit → Type 0
Runs net = (v : List Entry) → (rows : ℕ → Row) × IsZeroRun net v rows

abbrev pub read_of : List Entry → Ending → Rows
read_of entries ending = record { entries = entries; ending = ending }

-- ---- whole outcomes

pub whole_report : (net : Circuit) (before now : SinkState) (text : List ℕ) (entries : List Entry) → Runs net
    → trace net.inputs text ≡ Traced (read_of entries End)
    → ShownWhole net before entries (end_line (length entries)) now
    → Wrote (lines_with (NetGives net text) None) before now
whole_report net before now text entries runs traced shown =
    let run = runs entries in
    record {
      text = shown_rows net run.0 (length entries) ++ end_line (length entries);
      defined = OnRows (read_of entries End) traced run.0 run.1;
      written = shown.written run.0 run.1;
    }

pub refused_report : (net : Circuit) (before now : SinkState) (text : List ℕ) (entries : List Entry) (r : Refusal)
    → Runs net → trace net.inputs text ≡ Traced (read_of entries (Refused r)) → ShownWhole net before entries [] now
    → Wrote (lines_with (NetGives net text) (Some r)) before now
refused_report net before now text entries r runs traced shown =
    let run = runs entries in
    record {
      text = shown_rows net run.0 (length entries);
      defined = OnRows (read_of entries (Refused r)) traced run.0 run.1;
      written = shown.written run.0 run.1 ∙ ap (append_known before.written) (append-nil _);
    }

pub no_header : (net : Circuit) (sink : SinkState) (text : List ℕ) (r : Refusal) → trace net.inputs text ≡ NoHeader r
    → Wrote (lines_with (NetGives net text) (Some r)) sink sink
no_header net sink text r none = record {
  text = [];
  defined = OnHeader none;
  written = sym (append_known-nil sink.written);
}

-- ---- fronts of outcomes

tail_of : (lines : List ℕ) (count : ℕ) (ending : Ending)
    → (tail : List ℕ) × (lines ++ tail ≡ (ended lines count ending).lines)
tail_of lines count End = (end_line count, refl)
tail_of lines count (Refused r) = ([], append-nil lines)

-- the outcome of a trace that begins with these entries, whose lines begin with theirs
record Begun (net : Circuit) (text : List ℕ) (entries : List Entry) : Type 0 where
  pub rows : ℕ → Row
  pub run : IsZeroRun net entries rows
  pub outcome : Outcome
  pub given : NetGives net text outcome
  pub rest : List ℕ
  pub lines : shown_rows net rows (length entries) ++ rest ≡ outcome.lines

begun : (net : Circuit) (text : List ℕ) (entries : List Entry) (more : Rows) → Runs net
    → trace net.inputs text ≡ Traced (after entries more) → Begun net text entries
begun net text entries more runs traced =
    let all = entries ++ more.entries in
    let run = runs all in
    let longer = length-append entries more.entries in
    let front = shown_front net run.0 (length entries) (length all) (omega (arith, longer)) in
    let tail = tail_of (shown_rows net run.0 (length all)) (length all) more.ending in
    record {
      rows = run.0;
      run = front_run net entries more.entries run.0 run.1;
      outcome = ended (shown_rows net run.0 (length all)) (length all) more.ending;
      given = OnRows (after entries more) traced run.0 run.1;
      rest = front.0 ++ tail.0;
      lines = sym (append_assoc (shown_rows net run.0 (length entries)) front.0 tail.0)
          ∙ (ap (λ l. l ++ tail.0) front.1 ∙ tail.1);
    }

front_of : (net : Circuit) (before now : SinkState) (text : List ℕ) (b : Outcome) (whole rest : List ℕ)
    → NetGives net text b → whole ++ rest ≡ b.lines → WritesFront before.written now.written whole
    → CutShort (lines_of (NetGives net text)) before now
front_of net before now text b whole rest given lines cut = record {
  front = cut.front;
  written = cut.written;
  begins = inr (record {
    text = b.lines;
    defined = (b.refusal, given);
    rest = cut.rest ++ rest;
    whole = sym (append_assoc cut.front cut.rest rest) ∙ (ap (λ l. l ++ rest) cut.whole ∙ lines);
  });
}

pub cut_report : (net : Circuit) (before now : SinkState) (text : List ℕ) (entries : List Entry) (more : Rows)
    → Runs net → trace net.inputs text ≡ Traced (after entries more) → ShownInPart net before entries [] now
    → CutShort (lines_of (NetGives net text)) before now
cut_report net before now text entries more runs traced shown =
    let b = begun net text entries more runs traced in
    front_of net before now text b.outcome (shown_rows net b.rows (length entries) ++ []) b.rest b.given
    (ap (λ l. l ++ b.rest) (append-nil _) ∙ b.lines) (shown.front b.rows b.run)

pub cut_at_end : (net : Circuit) (before now : SinkState) (text : List ℕ) (entries : List Entry) → Runs net
    → trace net.inputs text ≡ Traced (read_of entries End)
    → ShownInPart net before entries (end_line (length entries)) now
    → CutShort (lines_of (NetGives net text)) before now
cut_at_end net before now text entries runs traced shown =
    let run = runs entries in
    front_of net before now text (ended (shown_rows net run.0 (length entries)) (length entries) End)
    (shown_rows net run.0 (length entries) ++ end_line (length entries)) []
    (OnRows (read_of entries End) traced run.0 run.1) (append-nil _) (shown.front run.0 run.1)

pub all_shown : (net : Circuit) (before now : SinkState) (text : List ℕ) (entries : List Entry) (more : Rows)
    → Runs net → trace net.inputs text ≡ Traced (after entries more) → ShownWhole net before entries [] now
    → CutShort (lines_of (NetGives net text)) before now
all_shown net before now text entries more runs traced shown =
    let b = begun net text entries more runs traced in
    record {
      front = shown_rows net b.rows (length entries);
      written = shown.written b.rows b.run ∙ ap (append_known before.written) (append-nil _);
      begins = inr (record {
        text = b.outcome.lines;
        defined = (b.outcome.refusal, b.given);
        rest = b.rest;
        whole = b.lines;
      });
    }

pub nothing_written : (net : Circuit) (sink : SinkState) (text : List ℕ)
    → CutShort (lines_of (NetGives net text)) sink sink
nothing_written net sink text = record { front = []; written = sym (append_known-nil sink.written); begins = inl refl }

-- ---- where reading stops

rows_taken : (net : Circuit) (s : ReaderState) (done : List ℕ) (entries : List Entry)
    → Read net.inputs s done [] entries → IsInRow s → HasRows net.inputs done entries
rows_taken net s done entries r is = record {
  lines = r.front;
  begun = r.begun;
  split = r.split;
  open_line = r.open_line;
  read = ap (trace net.inputs) (sym (append-nil (r.front ++ 10 ∷ [])))
      ∙ (r.runs [] ∙ ap (λ es. Traced (read_of es End)) (append-nil entries));
  unbroken = λ more all refusal traced ends.
      let same = traced_same _ _
      (sym (ap (λ l. trace net.inputs (l ++ more)) (append-nil done) ∙ traced)
      ∙ traced_on net.inputs s done [] entries r more) in
      let behind = broken_behind s more refusal is (ap (λ (x : Rows). x.ending) (sym same) ∙ ends) in
      let used = r.used in
      omega arith;
}

pub stops_there : (net : Circuit) (before now : SinkState) (s : ReaderState) (done : List ℕ) (entries : List Entry)
    → Runs net → Read net.inputs s done [] entries → IsInRow s → ShownWhole net before entries [] now
    → (lines : List ℕ) × Stops (NetRows net) done lines × (now.written ≡ append_known before.written lines)
stops_there net before now s done entries runs r is shown =
    let run = runs entries in (
      shown_rows net run.0 (length entries),
      InRows (record {
        entries = entries;
        has = rows_taken net s done entries r is;
        rows = run.0;
        run = run.1;
        lines_are = refl;
      }),
      shown.written run.0 run.1 ∙ ap (append_known before.written) (append-nil _),
    )
