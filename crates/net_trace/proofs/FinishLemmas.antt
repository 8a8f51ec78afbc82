-- How a report is finished.
use Rattle.std.proofs.Common.{◌≡◌, ℕ, true, List, [], ◌∷◌, ◌++◌, Some, None, Result, Ok, Err, refl}
use Rattle.std.proofs.Common.{sym, ap, subst, ◌∙◌, append-nil}
use Rattle.pbs_io.specs.Outside.{SinkState}
use Rattle.pbs_base.specs.declared.entry.Entry.{Entry}
use Rattle.pbs_base.specs.declared.refusal.Refusal.{Refusal}
use Rattle.net_core.specs.Circuits.{Circuit}
use Rattle.trace_text.specs.Traces as traces
use Rattle.trace_text.specs.Headers.{Traced, trace}
use Rattle.trace_text.specs.States.{ReaderState, ReadsRow}
use Rattle.trace_text.specs.declared.answers.Row as answers
use Rattle.trace_text.specs.declared.answers.Row.TheVariants as answer
use Rattle.net_trace.specs.declared.fail.RunFail.{RunFail}
use Rattle.net_trace.specs.declared.fail.RunFail.TheVariants as fails
use Rattle.net_trace.specs.declared.report.Report.{Report}
use Rattle.net_trace.specs.inner.Steps.{Ends, FinishesLater, ReadAll, Refuses, Shown, ShownInPart, after, entry_in}
use Rattle.net_trace.proofs.TextLemmas.{end_traced, last_refused, last_traced, not_more}
use Rattle.net_trace.proofs.OutcomeLemmas.{Runs, cut_at_end, cut_report, read_of, refused_report, whole_report}

ends_there : (net : Circuit) (before now : SinkState) (text : List ℕ) (entries : List Entry) → Runs net
    → trace net.inputs text ≡ Traced (read_of entries traces.End) → (result : Result (Unit {0}) RunFail)
    → Ends net before entries now result → FinishesLater net before text now result
ends_there net before now text entries runs traced (Ok x) h =
    record { later = h.later; finishes = whole_report net before now text entries runs traced h }
ends_there net before now text entries runs traced (Err fails.WriteFault) h =
    record { later = h.later; finishes = (h.rose, cut_at_end net before now text entries runs traced h) }
ends_there net before now text entries runs traced (Err (fails.Refused r)) h = absurd h
ends_there net before now text entries runs traced (Err fails.ReadFault) h = absurd h
ends_there net before now text entries runs traced (Err fails.Memory) h = absurd h

refused_there : (net : Circuit) (before now : SinkState) (text : List ℕ) (entries : List Entry) (r : Refusal)
    → Runs net → trace net.inputs text ≡ Traced (read_of entries (traces.Refused r))
    → (result : Result (Unit {0}) RunFail) → Refuses net before entries r now result
    → FinishesLater net before text now result
refused_there net before now text entries r runs traced (Ok x) h = absurd h
refused_there net before now text entries r runs traced (Err (fails.Refused q)) h =
    let shown = h.1 in
    subst (λ y. FinishesLater net before text now (Err (fails.Refused y))) (sym h.0)
    (record { later = shown.later; finishes = refused_report net before now text entries r runs traced shown })
refused_there net before now text entries r runs traced (Err fails.WriteFault) h = record {
  later = h.later;
  finishes = (
    h.rose,
    cut_report net before now text entries (read_of [] (traces.Refused r)) runs
        (more_traced traced) h,
  );
}
  where
    more_traced : trace net.inputs text ≡ Traced (read_of entries (traces.Refused r))
        → trace net.inputs text ≡ Traced (after entries (read_of [] (traces.Refused r)))
    more_traced e = e ∙ ap (λ es. Traced (read_of es (traces.Refused r))) (sym (append-nil entries))
refused_there net before now text entries r runs traced (Err fails.ReadFault) h = absurd h
refused_there net before now text entries r runs traced (Err fails.Memory) h = absurd h

pub finish_refused : (net : Circuit) (before a b : SinkState) (s t : ReaderState) (done : List ℕ) (used : ℕ)
    (entries : List Entry) (report : Report) (r : Refusal) (result : Result (Unit {0}) RunFail)
    → ReadAll net.inputs s done entries → Shown net before entries report a
    → ReadsRow s t [] true used (answer.Refused r) → Refuses net before entries r b result
    → FinishesLater net before done b result
finish_refused net before a b s t done used entries report r result all shown reads refuses =
    refused_there net before b done entries r shown.runs (last_refused net.inputs s t done used entries r all reads)
    result refuses

pub finish_end : (net : Circuit) (before a b : SinkState) (s t : ReaderState) (done : List ℕ) (used : ℕ)
    (entries : List Entry) (report : Report) (row : answers.Row) (result : Result (Unit {0}) RunFail)
    → ReadAll net.inputs s done entries → Shown net before entries report a → ReadsRow s t [] true used row
    → None ≡ entry_in row → ((r : Refusal) → row ≡ answer.Refused r → ⊥) → Ends net before entries b result
    → FinishesLater net before done b result
finish_end net before a b s t done used entries report (answer.Vector x) result all shown reads none other ends =
    absurd (cc)
finish_end net before a b s t done used entries report answer.Reset result all shown reads none other ends =
    absurd (cc)
finish_end net before a b s t done used entries report answer.More result all shown reads none other ends =
    absurd (not_more s t used reads)
finish_end net before a b s t done used entries report answer.End result all shown reads none other ends =
    ends_there net before b done entries shown.runs (end_traced net.inputs s t done used entries all reads) result ends
finish_end net before a b s t done used entries report (answer.Refused r) result all shown reads none other ends =
    absurd (other r refl)

pub finish_row : (net : Circuit) (before a b : SinkState) (s t : ReaderState) (done : List ℕ) (used : ℕ)
    (entries : List Entry) (report : Report) (row : answers.Row) (e : Entry) (result : Result (Unit {0}) RunFail)
    → ReadAll net.inputs s done entries → Shown net before entries report a → ReadsRow s t [] true used row
    → entry_in row ≡ Some e → Ends net before (entries ++ e ∷ []) b result → FinishesLater net before done b result
finish_row net before a b s t done used entries report row e result all shown reads is ends =
    ends_there net before b done (entries ++ e ∷ []) shown.runs
    (last_traced net.inputs s t done used row entries e all reads is) result ends

pub finish_cut : (net : Circuit) (before a b : SinkState) (s t : ReaderState) (done : List ℕ) (used : ℕ)
    (entries : List Entry) (report : Report) (row : answers.Row) (e : Entry) → ReadAll net.inputs s done entries
    → Shown net before entries report a → ReadsRow s t [] true used row → entry_in row ≡ Some e
    → ShownInPart net before (entries ++ e ∷ []) [] b → FinishesLater net before done b (Err fails.WriteFault)
finish_cut net before a b s t done used entries report row e all shown reads is part = record {
  later = part.later;
  finishes = (
    part.rose,
    cut_report net before b done (entries ++ e ∷ []) (read_of [] traces.End) shown.runs
        (last_traced net.inputs s t done used row entries e all reads is
        ∙ ap (λ es. Traced (read_of es traces.End)) (sym (append-nil (entries ++ e ∷ [])))) part,
  );
}
