-- How a call ends, by how a call ends that is a part of it.
use Rattle.std.proofs.Common.{◌≡◌, ◌≤◌, ◌+◌, ℕ, List, [], ◌∷◌, ◌++◌, length, Option, Some, None, Result, Ok, Err}
use Rattle.std.proofs.Common.{refl, sym, subst, ◌∙◌, inl, inr, arith}
use Rattle.pbs_io.specs.Outside.{ShelfState, SlotState, SinkState, NamedFile, GoesOn}
use Rattle.pbs_io.specs.Taken.{TakenFrom, TakesAtMost, Untouched}
use Rattle.pbs_io.proofs.WrittenLemmas.{append_known-nil}
use Rattle.net_trace.specs.declared.fail.RunFail.{RunFail}
use Rattle.net_trace.specs.declared.fail.RunFail.TheVariants as fails
use Rattle.pbs_base.specs.declared.refusal.Refusal.{Refusal}
use Rattle.net_trace.specs.Outcomes.{Outcome}
use Rattle.net_trace.specs.Taken.{TakesLittle, Stops, InHeader, InRows}
use Rattle.net_trace.specs.Endings.{Task, trace_text, TraceEnded, Wrote, CutShort, WroteTaken, Stopped, RunEnds}
use Rattle.net_trace.specs.Endings.{lines_with, lines_of}

-- ---- nothing was taken or written

no_bytes : (header behind : List ℕ) → [] ≡ header ++ 10 ∷ behind → length behind ≤ 65536
no_bytes [] behind e = absurd (cc)
no_bytes (x ∷ header) behind e = absurd (cc)

pub took_little : (text : List ℕ) (slot now : SlotState) → now ≡ slot → TakesLittle text slot now
took_little text slot now same = record {
  taken = [];
  took = Untouched same;
  little = λ header behind is none. no_bytes header behind is;
}

pub took_few : {most : ℕ} (text : List ℕ) (slot now : SlotState) → now ≡ slot → TakesAtMost most text slot now
took_few text slot now same = record { taken = []; took = Untouched same; few = omega arith }

pub wrote_nothing : (due : List ℕ → List ℕ → Type 0) (text : List ℕ) (slot now : SlotState) (sink : SinkState)
    → now ≡ slot → WroteTaken (Stops due) text slot now sink sink
wrote_nothing due text slot now sink same = record {
  taken = [];
  lines = [];
  took = Untouched same;
  due = InHeader refl (omega arith);
  written = sym (append_known-nil sink.written);
}

pub nothing_cut : (texts : List ℕ → Type 0) (sink : SinkState) → CutShort texts sink sink
nothing_cut texts sink = record { front = []; written = sym (append_known-nil sink.written); begins = inl refl }

-- ---- what one set of texts wrote, another one wrote that allows as much

pub wrote_more : (P Q : List ℕ → Type 0) (before now : SinkState) → ((text : List ℕ) → P text → Q text)
    → Wrote P before now → Wrote Q before now
wrote_more P Q before now f w = record { text = w.text; defined = f w.text w.defined; written = w.written }

pub cut_more : (P Q : List ℕ → Type 0) (before now : SinkState) → ((text : List ℕ) → P text → Q text)
    → CutShort P before now → CutShort Q before now
cut_more P Q before now f c = record {
  front = c.front;
  written = c.written;
  begins = elim c.begins [
    | inl none ↦ inl none
    | inr some ↦ inr (record {
      text = some.text;
      defined = f some.text some.defined;
      rest = some.rest;
      whole = some.whole;
    })
  ];
}

stops_more : (P Q : List ℕ → List ℕ → Type 0) (taken lines : List ℕ) → (P taken lines → Q taken lines)
    → Stops P taken lines → Stops Q taken lines
stops_more P Q taken lines f (InHeader none short) = InHeader none short
stops_more P Q taken lines f (InRows rows) = InRows (f rows)

-- ---- a call that is a part of another one, which had gone on from `a` to `b`

-- what the first task allows, the second allows
pub record IsPart {A B : Type 0} (T : Task A) (U : Task B) (x : List NamedFile → A) (y : List NamedFile → B)
    (needs wants : List NamedFile → Type 0) (told : Option (List NamedFile)) : Type 0 where
  pub trace : T.trace ≡ U.trace
  pub gives : (files : List NamedFile) → told ≡ Some files → (bytes : List ℕ) (o : Outcome) → T.gives (x files) bytes o
      → U.gives (y files) bytes o
  pub due : (files : List NamedFile) → told ≡ Some files → (taken lines : List ℕ) → T.due (x files) taken lines
      → U.due (y files) taken lines
  pub has : (files : List NamedFile) → told ≡ Some files → wants files → needs files

module _ {A B : Type 0} (T : Task A) (U : Task B) (x : List NamedFile → A) (y : List NamedFile → B)
    (needs has : List NamedFile → Type 0) (a b c : ShelfState) (k m : SinkState)
    (part : IsPart T U x y needs has a.files) (goes_on : GoesOn a b) (other : b.slots 1 ≡ a.slots 1) where
  given : (files : List NamedFile) → a.files ≡ Some files → (o : Outcome)
      → T.gives (x files) (trace_text T.trace files) o → U.gives (y files) (trace_text U.trace files) o
  given files told o is =
      subst (λ t. U.gives (y files) (trace_text t files) o) part.trace
      (part.gives files told (trace_text T.trace files) o is)

  whole : (files : List NamedFile) → a.files ≡ Some files → (r : Option Refusal)
      → Wrote (lines_with (T.gives (x files) (trace_text T.trace files)) r) k m
      → Wrote (lines_with (U.gives (y files) (trace_text U.trace files)) r) k m
  whole files told r w =
      wrote_more (lines_with (T.gives (x files) (trace_text T.trace files)) r)
      (lines_with (U.gives (y files) (trace_text U.trace files)) r) k m
      (λ lines is. given files told (record { lines = lines; refusal = r }) is) w

  cut : (files : List NamedFile) → a.files ≡ Some files
      → CutShort (lines_of (T.gives (x files) (trace_text T.trace files))) k m
      → CutShort (lines_of (U.gives (y files) (trace_text U.trace files))) k m
  cut files told w =
      cut_more (lines_of (T.gives (x files) (trace_text T.trace files)))
      (lines_of (U.gives (y files) (trace_text U.trace files))) k m
      (λ lines is. (is.0, given files told (record { lines = lines; refusal = is.0 }) is.1)) w

  from_here : (files : List NamedFile) (taken : List ℕ)
      → TakenFrom (trace_text T.trace files) (b.slots 1) (c.slots 1) taken
      → TakenFrom (trace_text U.trace files) (a.slots 1) (c.slots 1) taken
  from_here files taken took =
      subst (λ t. TakenFrom (trace_text t files) (a.slots 1) (c.slots 1) taken) part.trace
      (subst (λ o. TakenFrom (trace_text T.trace files) o (c.slots 1) taken) other took)

  stopped : (files : List NamedFile) → a.files ≡ Some files
      → Stopped (lines_of (T.gives (x files) (trace_text T.trace files))) (T.due (x files)) (trace_text T.trace files)
      b c k m
      → Stopped (lines_of (U.gives (y files) (trace_text U.trace files))) (U.due (y files)) (trace_text U.trace files)
      a c k m
  stopped files told s = record {
    front = cut files told s.front;
    taken = record {
      taken = s.taken.taken;
      lines = s.taken.lines;
      took = from_here files s.taken.taken s.taken.took;
      due = stops_more (T.due (x files)) (U.due (y files)) s.taken.taken s.taken.lines
          (part.due files told s.taken.taken s.taken.lines) s.taken.due;
      written = s.taken.written;
    };
  }

  told_there : (files : List NamedFile) → a.files ≡ Some files → b.files ≡ Some files
  told_there files told = goes_on.files ∙ told

  pub ends_more : (result : Result (Unit {0}) RunFail) → RunEnds T x needs b c k m result
      → RunEnds U y has a c k m result
  ends_more (Ok done) e = (
    subst (λ t. TraceEnded t c) part.trace e.0,
    λ files told. whole files told None (e.1 files (told_there files told)),
  )
  ends_more (Err (fails.Refused r)) e = λ files told. whole files told (Some r) (e files (told_there files told))
  ends_more (Err fails.ReadFault) e = (
    record {
      rose = let rose = e.0.rose in let later = goes_on.later in omega arith;
      never = λ calm files told there.
          e.0.never (goes_on.sound calm) files (told_there files told) (part.has files told there);
    },
    λ files told. stopped files told (e.1 files (told_there files told)),
  )
  ends_more (Err fails.WriteFault) e = (e.0, λ files told. cut files told (e.1 files (told_there files told)))
  ends_more (Err fails.Memory) e = (
    e.0,
    λ files told. (
        let little = e.1 files (told_there files told) in record {
          taken = little.taken;
          took = from_here files little.taken little.took;
          little = little.little;
        }),
  )

  pub few_more : {most : ℕ} (files : List NamedFile)
      → TakesAtMost most (trace_text T.trace files) (b.slots 1) (c.slots 1)
      → TakesAtMost most (trace_text U.trace files) (a.slots 1) (c.slots 1)
  few_more files few = record { taken = few.taken; took = from_here files few.taken few.took; few = few.few }
