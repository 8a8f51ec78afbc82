-- How the run of a text that was opened ends.
use Rattle.std.proofs.Common.{◌≡◌, ◌≤◌, ◌+◌, ◌-◌, ℕ, drop, take, false, List, [], ◌++◌, length, Option, Some}
use Rattle.std.proofs.Common.{Result}
use Rattle.std.proofs.Common.{Ok, Err, refl, sym, ap, subst, ◌∙◌, arith}
use Rattle.std.proofs.lemmas.List.{drop-take}
use Rattle.pbs_io.specs.Outside.{ShelfState, SinkState}
use Rattle.pbs_base.specs.declared.refusal.Refusal.{Refusal}
use Rattle.pbs_io.proofs.WrittenLemmas.{append_known-nil}
use Rattle.net_core.specs.Circuits.{Circuit}
use Rattle.trace_text.specs.Headers.{NoHeader, trace}
use Rattle.trace_text.specs.States.{ReaderState, has_newline, rows_from}
use Rattle.net_trace.specs.declared.fail.RunFail.{RunFail}
use Rattle.net_trace.specs.declared.fail.RunFail.TheVariants as fails
use Rattle.net_trace.specs.Taken.{InHeader}
use Rattle.net_trace.specs.inner.Steps.{Begins, EndsRows, FinishesLater, OpenedEnds, Read, ReadAll, ShownInPart}
use Rattle.net_trace.specs.inner.Steps.{TakenOf}
use Rattle.net_trace.proofs.TextLemmas.{traced_on}
use Rattle.net_trace.proofs.OutcomeLemmas.{Runs, cut_report, no_header, nothing_written}
use Rattle.net_trace.proofs.StandLemmas.{piece_failed, told_rest}

pub opened_ends : (net : Circuit) (a b : ShelfState) (before now : SinkState) (result : Result (Unit {0}) RunFail)
    → EndsRows net before (a.slots 1).left (b.slots 1).left now result → OpenedEnds net a b before now result
opened_ends net a b before now (Ok x) e = e
opened_ends net a b before now (Err (fails.Refused r)) e = e
opened_ends net a b before now (Err fails.ReadFault) e = e
opened_ends net a b before now (Err fails.WriteFault) e = e
opened_ends net a b before now (Err fails.Memory) e = absurd (e.memory refl)

-- row 0 was cut short
pub begin_failed : (net : Circuit) (before now : SinkState) (first left : Option (List ℕ)) (s : ReaderState)
    (behind : List ℕ) → Runs net → Begins net first left s behind → ShownInPart net before [] [] now
    → EndsRows net before first left now (Err fails.WriteFault)
begin_failed net before now first left s behind runs b part =
    piece_failed net before now first left (b.done ++ behind) fails.WriteFault b.taken.is b.taken.few part.later
    (λ rest. (
      part.rose,
      cut_report net before now ((b.done ++ behind) ++ rest) [] (rows_from s (behind ++ rest)) runs
          (traced_on net.inputs s b.done behind [] b.read rest) part,
    ))

pub begin_cut : (net : Circuit) (before now : SinkState) (s : ReaderState) (done : List ℕ) → Runs net
    → ReadAll net.inputs s done [] → ShownInPart net before [] [] now
    → FinishesLater net before done now (Err fails.WriteFault)
begin_cut net before now s done runs all part = record {
  later = part.later;
  finishes = (part.rose, cut_report net before now done [] (rows_from s []) runs all.follows part);
}

-- the header is refused
pub refused_ends : (net : Circuit) (sink : SinkState) (first left : Option (List ℕ)) (taken : List ℕ) (r : Refusal)
    → TakenOf first left taken → ((rest : List ℕ) → left ≡ Some rest → trace net.inputs (taken ++ rest) ≡ NoHeader r)
    → EndsRows net sink first left sink (Err (fails.Refused r))
refused_ends net sink first left taken r took none = record {
  ends = λ text told.
      let left_is = told_rest first left taken text took.is told in
      no_header net sink text r (ap (trace net.inputs) (sym left_is.text_is) ∙ none left_is.rest left_is.left_is);
  rose = λ e. absurd (cc);
  memory = λ e. absurd (cc);
  later = omega arith;
  taken = taken;
  few = took;
}

-- reading fails before the header's newline came
pub fault_ends : (net : Circuit) (sink : SinkState) (first left : Option (List ℕ)) (taken : List ℕ)
    → TakenOf first left taken → has_newline taken ≡ false → length taken ≤ 67108864
    → EndsRows net sink first left sink (Err fails.ReadFault)
fault_ends net sink first left taken took open_line few = record {
  ends = (
    λ text told. nothing_written net sink text,
    taken,
    [],
    took.is,
    InHeader open_line few,
    sym (append_known-nil sink.written),
  );
  rose = λ e. absurd (cc);
  memory = λ e. absurd (cc);
  later = omega arith;
  taken = taken;
  few = took;
}

pub unused_part : (from to : ℕ) (buffer : List ℕ) → from ≤ to
    → drop from (take to buffer) ≡ take (to - from) (drop from buffer)
unused_part from to buffer low =
    let whole : from + (to - from) ≡ to = omega arith in
    ap (λ n. drop from (take n buffer)) (sym whole) ∙ drop-take from (to - from) buffer

pub same_ports : (net : Circuit) (first left : Option (List ℕ)) (ports : List (List ℕ)) (s : ReaderState)
    (done behind : List ℕ) → ports ≡ net.inputs → Read ports s done behind [] → TakenOf first left (done ++ behind)
    → Begins net first left s behind
same_ports net first left ports s done behind same read taken =
    record { done = done; read = subst (λ p. Read p s done behind []) same read; taken = taken }
