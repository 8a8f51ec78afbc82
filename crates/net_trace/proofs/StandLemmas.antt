-- How one piece more is read.
use Rattle.std.proofs.Common.{◌≡◌, ◌≤◌, ◌-◌, ℕ, List, [], ◌++◌, length, take, Option, Some, None}
use Rattle.std.proofs.Common.{Result, Ok, Err, refl, sym, ap, subst, ◌∙◌, append_assoc, append-nil}
use Rattle.std.proofs.Common.{length-append, arith}
use Rattle.std.proofs.lemmas.Option.{same_Some}
use Rattle.std.proofs.lemmas.List.{length-take}
use Rattle.std.specs.Io.KnownBytes.{IsAtEnd, prepend_known}
use Rattle.pbs_io.specs.Outside.{Reads, ShelfState, SinkState, Rose}
use Rattle.pbs_base.specs.declared.entry.Entry.{Entry}
use Rattle.net_core.specs.Circuits.{Circuit}
use Rattle.trace_text.specs.Headers.{Traced, trace}
use Rattle.trace_text.specs.States.{IsInRow, ReaderState, rows_from}
use Rattle.net_trace.specs.declared.fail.RunFail.{RunFail}
use Rattle.net_trace.specs.declared.fail.RunFail.TheVariants as fails
use Rattle.net_trace.specs.declared.report.Report.{Report}
use Rattle.net_trace.specs.declared.rows.Progress.{Progress}
use Rattle.net_trace.specs.declared.rows.Progress.TheVariants as progress
use Rattle.net_trace.specs.inner.Steps.{Advances, EndsRows, Finishes, FinishesLater, OnlyReads, PieceEnds, Read}
use Rattle.net_trace.specs.inner.Steps.{ReadAll}
use Rattle.net_trace.specs.inner.Steps.{RowsEnd, ShownInPart, ShownWhole, Standing, after}
use Rattle.net_trace.proofs.TextLemmas.{all_read, traced_on}
use Rattle.net_trace.proofs.OutcomeLemmas.{all_shown, cut_report, stops_there}

-- ---- the shelf

pub read_only : {E : Type 0} (a b : ShelfState) (buffer : List ℕ) (result : Result ℕ E) → Reads a b 1 buffer result
    → OnlyReads a b
read_only a b buffer result r = record {
  files = r.goes_on.files;
  later = r.goes_on.later;
  sound = r.goes_on.sound;
  other = r.other;
  stands = r.stands;
}

pub reads_twice : (a b c : ShelfState) → OnlyReads a b → OnlyReads b c → OnlyReads a c
reads_twice a b c p q = record {
  files = q.files ∙ p.files;
  later = let one = p.later in let two = q.later in omega arith;
  sound = λ h. q.sound (p.sound h);
  other = q.other ∙ p.other;
  stands = q.stands ∙ p.stands;
}

-- ---- what was taken

pub taken_more : (first left now : Option (List ℕ)) (done piece : List ℕ) → first ≡ prepend_known done left
    → left ≡ prepend_known piece now → first ≡ prepend_known (done ++ piece) now
taken_more first left None done piece p q = p ∙ ap (prepend_known done) q
taken_more first left (Some rest) done piece p q =
    p ∙ (ap (prepend_known done) q ∙ ap Some (sym (append_assoc done piece rest)))

-- what is left of a text that is told
pub record IsLeft (left : Option (List ℕ)) (done text : List ℕ) : Type 0 where
  pub rest : List ℕ
  pub left_is : left ≡ Some rest
  pub text_is : done ++ rest ≡ text

pub told_rest : (first left : Option (List ℕ)) (done text : List ℕ) → first ≡ prepend_known done left
    → first ≡ Some text → IsLeft left done text
told_rest first None done text p q = absurd (let h = sym p ∙ q in cc)
told_rest first (Some rest) done text p q =
    record { rest = rest; left_is = refl; text_is = same_Some (done ++ rest) text (sym p ∙ q) }

pub at_end : (left now : Option (List ℕ)) → left ≡ prepend_known [] now → IsAtEnd left → IsAtEnd now
at_end left None p q = tt
at_end left (Some rest) p q = subst IsAtEnd p q

whole_text : (first left : Option (List ℕ)) (done text : List ℕ) → first ≡ prepend_known done left → IsAtEnd left
    → first ≡ Some text → done ≡ text
whole_text first None done text p end told = absurd (let h = sym p ∙ told in cc)
whole_text first (Some rest) done text p end told =
    sym (append-nil done) ∙ (ap (λ l. done ++ l) (sym end) ∙ same_Some (done ++ rest) text (sym p ∙ told))

-- ---- how the run ends

traced_text : (net : Circuit) (s : ReaderState) (done : List ℕ) (entries : List Entry)
    → Read net.inputs s done [] entries → (rest text : List ℕ) → done ++ rest ≡ text
    → trace net.inputs text ≡ Traced (after entries (rows_from s rest))
traced_text net s done entries read rest text is =
    ap (trace net.inputs) (sym is ∙ ap (λ l. l ++ rest) (sym (append-nil done)))
    ∙ traced_on net.inputs s done [] entries read rest

few_done : (net : Circuit) (s : ReaderState) (done : List ℕ) (entries : List Entry) → Read net.inputs s done [] entries
    → IsInRow s → length done ≤ 67108864
few_done net s done entries read is = let used = read.used in let within = is.within in omega arith

pub flush_failed : (net : Circuit) (before now : SinkState) (first left : Option (List ℕ)) (s : ReaderState)
    (report : Report) (a : SinkState) → (st : Standing net before first left s report a) → IsInRow s
    → ShownInPart net before st.entries [] now → EndsRows net before first left now (Err fails.WriteFault)
flush_failed net before now first left s report a st is part =
    let low = few_done net s st.done st.entries st.read is in
    record {
      ends = λ text told.
          let left_is = told_rest first left st.done text st.taken told in (
            part.rose,
            cut_report net before now text st.entries (rows_from s left_is.rest) st.shown.runs
                (traced_text net s st.done st.entries st.read left_is.rest text left_is.text_is) part,
          );
      rose = λ e. part.rose;
      memory = λ e. absurd (cc);
      later = part.later;
      taken = st.done;
      few = record { is = st.taken; few = omega (arith, low) };
    }

pub reading_stopped : (net : Circuit) (before now : SinkState) (first left left_now : Option (List ℕ))
    (s : ReaderState) (report : Report) (a : SinkState) → (st : Standing net before first left s report a) → IsInRow s
    → left_now ≡ left → ShownWhole net before st.entries [] now
    → EndsRows net before first left_now now (Err fails.ReadFault)
reading_stopped net before now first left left_now s report a st is same shown =
    let low = few_done net s st.done st.entries st.read is in
    let taken : first ≡ prepend_known st.done left_now = st.taken ∙ ap (prepend_known st.done) (sym same) in
    let there = stops_there net before now s st.done st.entries st.shown.runs st.read is shown in
    record {
      ends = (
        λ text told.
            let left_is = told_rest first left st.done text st.taken told in
            all_shown net before now text st.entries (rows_from s left_is.rest) st.shown.runs
            (traced_text net s st.done st.entries st.read left_is.rest text left_is.text_is) shown,
        st.done,
        there.0,
        taken,
        there.1,
        there.2,
      );
      rose = λ e. absurd (cc);
      memory = λ e. absurd (cc);
      later = shown.later;
      taken = st.done;
      few = record { is = taken; few = omega (arith, low) };
    }

-- what a finished report, or a refusal, means for the slot
rows_end : (net : Circuit) (before now : SinkState) (first left : Option (List ℕ)) (fail : RunFail)
    → (fail ≡ fails.ReadFault → ⊥)
    → ((text : List ℕ) → first ≡ Some text → Finishes net before text now (Err fail))
    → RowsEnd net before first left now (Err fail)
rows_end net before now first left (fails.Refused r) other f = f
rows_end net before now first left fails.ReadFault other f = absurd (other refl)
rows_end net before now first left fails.WriteFault other f = f
rows_end net before now first left fails.Memory other f = f

no_read_fault : (net : Circuit) (before now : SinkState) (text : List ℕ) (fail : RunFail)
    → Finishes net before text now (Err fail) → fail ≡ fails.ReadFault → ⊥
no_read_fault net before now text (fails.Refused r) h e = cc
no_read_fault net before now text fails.ReadFault h e = h
no_read_fault net before now text fails.WriteFault h e = cc
no_read_fault net before now text fails.Memory h e = cc

rose_if : (net : Circuit) (before now : SinkState) (text : List ℕ) (fail : RunFail)
    → Finishes net before text now (Err fail) → (result : Result (Unit {0}) RunFail) → result ≡ Err fail
    → result ≡ Err fails.WriteFault → Rose before.faults now.faults
rose_if net before now text (fails.Refused r) h result e w = absurd (let x = sym e ∙ w in cc)
rose_if net before now text fails.ReadFault h result e w = absurd h
rose_if net before now text fails.WriteFault h result e w = h.0
rose_if net before now text fails.Memory h result e w = absurd h

no_memory : (net : Circuit) (before now : SinkState) (text : List ℕ) (fail : RunFail)
    → Finishes net before text now (Err fail) → (result : Result (Unit {0}) RunFail) → result ≡ Err fail
    → result ≡ Err fails.Memory → ⊥
no_memory net before now text (fails.Refused r) h result e w = absurd (let x = sym e ∙ w in cc)
no_memory net before now text fails.ReadFault h result e w = absurd h
no_memory net before now text fails.WriteFault h result e w = absurd (let x = sym e ∙ w in cc)
no_memory net before now text fails.Memory h result e w = absurd h

-- the end of a text that was read to its end
pub finished : (net : Circuit) (before now : SinkState) (first left left_now : Option (List ℕ)) (done : List ℕ)
    (result : Result (Unit {0}) RunFail) → first ≡ prepend_known done left → IsAtEnd left
    → left ≡ prepend_known [] left_now → length done ≤ 67108865 → FinishesLater net before done now result
    → EndsRows net before first left_now now result
finished net before now first left left_now done (Ok x) taken end same low f = record {
  ends = (
    at_end left left_now same end,
    λ text told.
        subst (λ t. Finishes net before t now (Ok x)) (whole_text first left done text taken end told) f.finishes,
  );
  rose = λ e. absurd (cc);
  memory = λ e. absurd (cc);
  later = f.later;
  taken = done;
  few = record {
    is = taken_more first left left_now done [] taken same ∙ ap (λ l. prepend_known l left_now) (append-nil done);
    few = low;
  };
}
finished net before now first left left_now done (Err fail) taken end same low f = record {
  ends = rows_end net before now first left_now fail (no_read_fault net before now done fail f.finishes)
      (λ text told. subst (λ t. Finishes net before t now (Err fail)) (whole_text first left done text taken end told)
      f.finishes);
  rose = rose_if net before now done fail f.finishes (Err fail) refl;
  memory = no_memory net before now done fail f.finishes (Err fail) refl;
  later = f.later;
  taken = done;
  few = record {
    is = taken_more first left left_now done [] taken same ∙ ap (λ l. prepend_known l left_now) (append-nil done);
    few = low;
  };
}

-- the end within a piece
pub piece_failed : (net : Circuit) (before now : SinkState) (first left : Option (List ℕ)) (done : List ℕ)
    (fail : RunFail) → first ≡ prepend_known done left → length done ≤ 67108865 → before.faults ≤ now.faults
    → ((rest : List ℕ) → Finishes net before (done ++ rest) now (Err fail))
    → EndsRows net before first left now (Err fail)
piece_failed net before now first left done fail taken low later f = record {
  ends = rows_end net before now first left fail (no_read_fault net before now (done ++ []) fail (f []))
      (λ text told.
      let left_is = told_rest first left done text taken told in
      subst (λ t. Finishes net before t now (Err fail)) left_is.text_is (f left_is.rest));
  rose = rose_if net before now (done ++ []) fail (f []) (Err fail) refl;
  memory = no_memory net before now (done ++ []) fail (f []) (Err fail) refl;
  later = later;
  taken = done;
  few = record { is = taken; few = low };
}

pub piece_done : (net : Circuit) (before now : SinkState) (first left : Option (List ℕ)) (s : ReaderState)
    (done : List ℕ) (report : Report) → first ≡ prepend_known done left
    → PieceEnds net before done s report now (Ok tt) → Standing net before first left s report now
piece_done net before now first left s done report taken p =
    record { done = done; entries = p.0; read = p.1; taken = taken; shown = p.2 }

-- the end of the text where the run stands
pub finished_standing : {E : Type 0} (net : Circuit) (before now : SinkState) (first : Option (List ℕ))
    (a b : ShelfState) (buffer : List ℕ) (n : ℕ) (s : ReaderState) (report : Report) (k : SinkState)
    (result : Result (Unit {0}) RunFail) → (st : Standing net before first (a.slots 1).left s report k) → IsInRow s
    → Reads {E = E} a b 1 buffer (Ok n) → n ≡ 0
    → (ReadAll net.inputs s st.done st.entries → FinishesLater net before st.done now result)
    → EndsRows net before first (b.slots 1).left now result
finished_standing net before now first a b buffer n s report k result st is reads none f =
    let low = few_done net s st.done st.entries st.read is in
    finished net before now first (a.slots 1).left (b.slots 1).left st.done result st.taken (reads.end none)
    (subst (λ m. (a.slots 1).left ≡ prepend_known (take m buffer) (b.slots 1).left) none reads.moved)
    (omega (arith, low)) (f (all_read net.inputs s st.done st.entries st.read))

pub within_room : (net : Circuit) (s : ReaderState) (done : List ℕ) (entries : List Entry) (buffer : List ℕ)
    (n used : ℕ) → Read net.inputs s done [] entries → IsInRow s → used ≡ s.used → n ≤ 67108865 - used
    → length (done ++ take n buffer) ≤ 67108865
within_room net s done entries buffer n used read is same room =
    let a = read.used in
    let b = is.within in
    let long = length-append done (take n buffer) in
    let part = length-take n buffer in
    omega arith

pub done_ends : (net : Circuit) (before now : SinkState) (first left : Option (List ℕ)) (s : ReaderState)
    (report : Report) (p : Progress) → p ≡ progress.Done → Advances net before first left s report now (Ok p)
    → EndsRows net before first left now (Ok tt)
done_ends net before now first left s report progress.More e a = absurd (cc)
done_ends net before now first left s report progress.Done e a = a
