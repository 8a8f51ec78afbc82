-- How the run of a netlist on a named trace ends.
use Rattle.std.proofs.Common.{◌≡◌, ◌≤◌, ℕ, List, [], ◌∷◌, ◌++◌, length, option_map, Some}
use Rattle.std.proofs.Common.{Result, Ok, Err, refl, sym, ap, ◌∙◌, arith}
use Rattle.std.specs.Io.KnownBytes.{prepend_known}
use Rattle.pbs_io.specs.Outside.{GoesOn, NamedFile, Opens, ShelfState, SinkState, SlotState, content_of}
use Rattle.pbs_io.proofs.WrittenLemmas.{append_known-nil}
use Rattle.net_core.specs.Circuits.{Circuit}
use Rattle.net_trace.specs.declared.fail.RunFail.{RunFail}
use Rattle.net_trace.specs.declared.fail.RunFail.TheVariants as fails
use Rattle.pbs_io.specs.Taken.{Opened, TakesAtMost, Took, Untouched}
use Rattle.net_trace.specs.Taken.{InHeader}
use Rattle.net_trace.specs.Endings.{TaskEnds, net_task}
use Rattle.net_trace.specs.inner.Steps.{OnlyReads, OpenedEnds, ReadingFailed, TakenOf}
use Rattle.net_trace.proofs.OutcomeLemmas.{nothing_written}
use Rattle.net_trace.proofs.StandLemmas.{told_rest}

-- ---- before the trace was opened

none_behind : (header behind : List ℕ) → [] ≡ header ++ 10 ∷ behind → length behind ≤ 65536
none_behind [] behind e = absurd (cc)
none_behind (x ∷ header) behind e = absurd (cc)

pub untouched : (text : List ℕ) (slot : SlotState) → TakesAtMost 67108865 text slot slot
untouched text slot = record { taken = []; took = Untouched refl; few = omega arith }

pub no_memory_yet : (net : Circuit) (name : List ℕ) (shelf : ShelfState) (sink : SinkState)
    → TaskEnds (net_task name) net shelf shelf sink sink (Err fails.Memory)
no_memory_yet net name shelf sink = (
  refl,
  λ files told. record {
    taken = [];
    took = Untouched refl;
    little = λ header behind e none. none_behind header behind e;
  },
)

-- ---- the trace was not opened

not_opened : {T E : Type 0} (a b : ShelfState) (name text : List ℕ) (e : E) → Opens {T = T} a b 1 name (Err e)
    → Took text (b.slots 1) []
not_opened a b name text e o = record {
  rest = text;
  whole = refl;
  left = λ stands. absurd (let h = sym o.stands ∙ stands in cc);
  none = λ stands. refl;
}

pub open_failed : {T E : Type 0} (net : Circuit) (name : List ℕ) (a b : ShelfState) (sink : SinkState) (e : E)
    → Opens {T = T} a b 1 name (Err e) → TaskEnds (net_task name) net a b sink sink (Err fails.ReadFault)
open_failed net name a b sink e o = (
  record {
    rose = o.cause;
    never = λ calm files told has. (let h = o.never calm files told (has tt) in cc);
  },
  λ files told. record {
    front = nothing_written net sink (content_of files name);
    taken = record {
      taken = [];
      lines = [];
      took = Opened (not_opened a b name (content_of files name) e o);
      due = InHeader refl (omega arith);
      written = sym (append_known-nil sink.written);
    };
  },
)

pub few_not_opened : {T E : Type 0} (a b : ShelfState) (name text : List ℕ) (e : E) → Opens {T = T} a b 1 name (Err e)
    → TakesAtMost 67108865 text (a.slots 1) (b.slots 1)
few_not_opened a b name text e o =
    record { taken = []; took = Opened (not_opened a b name text e o); few = omega arith }

-- ---- the trace was opened

pub both_go_on : {T E : Type 0} (a b c : ShelfState) (name : List ℕ) (x : T) → Opens {E = E} a b 1 name (Ok x)
    → OnlyReads b c → GoesOn a c
both_go_on a b c name x o r = record {
  files = r.files ∙ o.goes_on.files;
  later = let one = o.goes_on.later in let two = r.later in omega arith;
  sound = λ h. r.sound (o.goes_on.sound h);
}

content_left : {T E : Type 0} (a b : ShelfState) (name : List ℕ) (x : T) (files : List NamedFile)
    → Opens {E = E} a b 1 name (Ok x) → a.files ≡ Some files → (b.slots 1).left ≡ Some (content_of files name)
content_left a b name x files o told = o.left ∙ ap (option_map (λ fs. content_of fs name)) told

took_of : {T E : Type 0} (a b c : ShelfState) (name : List ℕ) (x : T) (files : List NamedFile) (taken : List ℕ)
    → Opens {E = E} a b 1 name (Ok x) → OnlyReads b c → a.files ≡ Some files
    → (b.slots 1).left ≡ prepend_known taken (c.slots 1).left → Took (content_of files name) (c.slots 1) taken
took_of a b c name x files taken o r told is =
    let rest = told_rest (b.slots 1).left (c.slots 1).left taken (content_of files name) is
    (content_left a b name x files o told) in
    record {
      rest = rest.rest;
      whole = rest.text_is;
      left = λ stands. rest.left_is;
      none = λ stands. absurd (let h = sym (r.stands ∙ o.stands) ∙ stands in cc);
    }

-- the clauses of the call, by how the run ended
pub run_ends : {T E : Type 0} (net : Circuit) (name : List ℕ) (a b c : ShelfState) (k m : SinkState) (x : T)
    (result : Result (Unit {0}) RunFail) → Opens {E = E} a b 1 name (Ok x) → OnlyReads b c
    → (result ≡ Err fails.ReadFault → ReadingFailed b c) → OpenedEnds net b c k m result
    → TaskEnds (net_task name) net a c k m result
run_ends net name a b c k m x (Ok done) o r failed e =
    (e.ends.0, λ files told. e.ends.1 (content_of files name) (content_left a b name x files o told))
run_ends net name a b c k m x (Err (fails.Refused refusal)) o r failed e =
    λ files told. e.ends (content_of files name) (content_left a b name x files o told)
run_ends net name a b c k m x (Err fails.WriteFault) o r failed e =
    (e.rose refl, λ files told. (e.ends (content_of files name) (content_left a b name x files o told)).1)
run_ends net name a b c k m x (Err fails.ReadFault) o r failed e =
    let f = failed refl in (
      record {
        rose = let one = o.goes_on.later in let rose = f.rose in omega arith;
        never = λ calm files told has. f.never (o.goes_on.sound calm) o.stands;
      },
      λ files told. record {
        front = e.ends.0 (content_of files name) (content_left a b name x files o told);
        taken = record {
          taken = e.ends.1;
          lines = e.ends.2;
          took = Opened (took_of a b c name x files e.ends.1 o r told e.ends.3);
          due = e.ends.4;
          written = e.ends.5;
        };
      },
    )
run_ends net name a b c k m x (Err fails.Memory) o r failed e = (
  ap (λ (s : SinkState). s.written) e.0,
  λ files told. record { taken = e.1; took = Opened (took_of a b c name x files e.1 o r told e.2.is); little = e.3 },
)

taken_by : (net : Circuit) (b c : ShelfState) (k m : SinkState) (result : Result (Unit {0}) RunFail)
    → OpenedEnds net b c k m result → (taken : List ℕ) × TakenOf (b.slots 1).left (c.slots 1).left taken
taken_by net b c k m (Ok done) e = (e.taken, e.few)
taken_by net b c k m (Err (fails.Refused refusal)) e = (e.taken, e.few)
taken_by net b c k m (Err fails.ReadFault) e = (e.taken, e.few)
taken_by net b c k m (Err fails.WriteFault) e = (e.taken, e.few)
taken_by net b c k m (Err fails.Memory) e = (e.1, e.2)

pub few_taken : {T E : Type 0} (net : Circuit) (name : List ℕ) (a b c : ShelfState) (k m : SinkState) (x : T)
    (result : Result (Unit {0}) RunFail) → Opens {E = E} a b 1 name (Ok x) → OnlyReads b c
    → OpenedEnds net b c k m result → (files : List NamedFile) → a.files ≡ Some files
    → TakesAtMost 67108865 (content_of files name) (a.slots 1) (c.slots 1)
few_taken net name a b c k m x result o r e files told =
    let t = taken_by net b c k m result e in
    record { taken = t.0; took = Opened (took_of a b c name x files t.0 o r told t.1.is); few = t.1.few }

pub faults_later : (net : Circuit) (b c : ShelfState) (k m : SinkState) (result : Result (Unit {0}) RunFail)
    → OpenedEnds net b c k m result → k.faults ≤ m.faults
faults_later net b c k m (Ok done) e = e.later
faults_later net b c k m (Err (fails.Refused refusal)) e = e.later
faults_later net b c k m (Err fails.ReadFault) e = e.later
faults_later net b c k m (Err fails.WriteFault) e = e.later
faults_later net b c k m (Err fails.Memory) e = let same = ap (λ (s : SinkState). s.faults) e.0 in omega arith
