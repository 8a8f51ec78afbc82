-- How a call ends that writes what it finds: one family of records for every command.
use Rattle.std.specs.Prelude.{◌≡◌, ◌⊎◌, ◌++◌, ℕ, true, List, [], Option, Some, None, Result, Ok, Err, ⊤}
use Rattle.std.specs.Option.{ForSome}
use Rattle.std.specs.Io.KnownBytes.{append_known, IsAtEnd}
use Rattle.pbs_io.specs.Outside.{ShelfState, SlotState, SinkState, NamedFile, Rose, content_of, has_file}
use Rattle.pbs_io.specs.Taken.{TakenFrom}
use Rattle.pbs_base.specs.declared.refusal.Refusal.{Refusal}
use Rattle.net_core.specs.Circuits.{Circuit}
use Rattle.net_trace.specs.declared.fail.RunFail.{RunFail}
use Rattle.net_trace.specs.declared.fail.RunFail.TheVariants as fails
use Rattle.net_trace.specs.Outcomes.{Outcome, NetGives}
use Rattle.net_trace.specs.Taken.{TakesLittle, Stops, NetRows}

-- ---- what is to be done

-- what a call does with a text that it has, or with what that stands for
pub record Task (A : Type 0) : Type 1 where
  -- the name of the trace that it reads in slot 1, where it reads one
  pub trace : Option (List ℕ)
  -- the outcomes that it may have on the text of a trace
  pub gives : A → List ℕ → Outcome → Type 0
  -- the lines that are due in the rows where so much of the trace was taken
  pub due : A → List ℕ → List ℕ → Type 0
  -- the trace is read
  pub opens : A → Type 0
  -- nothing is opened, since what it has is refused or no trace is needed
  pub leaves : A → Type 0

-- the text of the trace, none where there is no trace; a file that isn't there counts as an empty one
abbrev pub trace_text : Option (List ℕ) → List NamedFile → List ℕ
trace_text None files = []
trace_text (Some name) files = content_of files name

-- the files have the trace, where it is read
abbrev pub HasTrace : Option (List ℕ) → Type 0 → List NamedFile → Type 0
HasTrace None opens files = ⊤
HasTrace (Some name) opens files = opens → has_file files name ≡ true

-- nothing is left to read of the trace
abbrev pub TraceEnded : Option (List ℕ) → ShelfState → Type 0
TraceEnded None shelf = ⊤
TraceEnded (Some name) shelf = IsAtEnd (shelf.slots 1).left

-- ---- what was written

-- one of these texts was written whole
pub record Wrote (texts : List ℕ → Type 0) (before now : SinkState) : Type 0 where
  pub text : List ℕ
  pub defined : texts text
  pub written : now.written ≡ append_known before.written text

-- a prefix of one of these texts
pub record IsFrontOf (texts : List ℕ → Type 0) (front : List ℕ) : Type 0 where
  pub text : List ℕ
  pub defined : texts text
  pub rest : List ℕ
  pub whole : front ++ rest ≡ text

-- what was written is a prefix of one of these texts, if anything was
pub record CutShort (texts : List ℕ → Type 0) (before now : SinkState) : Type 0 where
  pub front : List ℕ
  pub written : now.written ≡ append_known before.written front
  pub begins : (front ≡ []) ⊎ IsFrontOf texts front

-- what was written is what is due behind the bytes that were taken
pub record WroteTaken (stops : List ℕ → List ℕ → Type 0) (text : List ℕ) (slot slot_now : SlotState)
    (before now : SinkState) : Type 0 where
  pub taken : List ℕ
  pub lines : List ℕ
  pub took : TakenFrom text slot slot_now taken
  pub due : stops taken lines
  pub written : now.written ≡ append_known before.written lines

-- the lines of the outcomes that end in this refusal, or in none
abbrev pub lines_with : (Outcome → Type 0) → Option Refusal → List ℕ → Type 0
lines_with gives refusal lines = gives (record { lines = lines; refusal = refusal })

-- the lines of the outcomes
abbrev pub lines_of : (Outcome → Type 0) → List ℕ → Type 0
lines_of gives lines = (refusal : Option Refusal) × gives (record { lines = lines; refusal = refusal })

-- ---- how a call ends

-- reading failed: what was written is a prefix of one of these texts, and what is due
pub record Stopped (texts : List ℕ → Type 0) (due : List ℕ → List ℕ → Type 0) (text : List ℕ)
    (shelf shelf_now : ShelfState) (sink sink_now : SinkState) : Type 0 where
  pub front : CutShort texts sink sink_now
  pub taken : WroteTaken (Stops due) text (shelf.slots 1) (shelf_now.slots 1) sink sink_now

-- the shelf failed, and not by itself where it is sound and the files, which are told, have what is needed
pub record ReadFailed (has : List NamedFile → Type 0) (before now : ShelfState) : Type 0 where
  pub rose : Rose before.faults now.faults
  pub never : before.sound ≡ true → (files : List NamedFile) → before.files ≡ Some files → has files → ⊥

-- how a call ends that does the task with what the files have for it, and needs these files: it was done to its end; or
-- up to a refusal, whose line isn't written; or reading failed; or writing did; or no memory was found, before or not
-- far behind the header of the trace, and nothing was written
abbrev pub RunEnds : {A : Type 0} → Task A → (List NamedFile → A) → (List NamedFile → Type 0) → ShelfState → ShelfState
    → SinkState → SinkState → Result (Unit {0}) RunFail → Type 0
RunEnds task first has shelf shelf_now sink sink_now (Ok done) =
    TraceEnded task.trace shelf_now × ForSome shelf.files (λ files.
    Wrote (lines_with (task.gives (first files) (trace_text task.trace files)) None) sink sink_now)
RunEnds task first has shelf shelf_now sink sink_now (Err (fails.Refused r)) = ForSome shelf.files (λ files.
    Wrote (lines_with (task.gives (first files) (trace_text task.trace files)) (Some r)) sink sink_now)
RunEnds task first has shelf shelf_now sink sink_now (Err fails.ReadFault) =
    ReadFailed has shelf shelf_now × ForSome shelf.files (λ files.
    Stopped (lines_of (task.gives (first files) (trace_text task.trace files))) (task.due (first files))
    (trace_text task.trace files) shelf shelf_now sink sink_now)
RunEnds task first has shelf shelf_now sink sink_now (Err fails.WriteFault) =
    Rose sink.faults sink_now.faults × ForSome shelf.files (λ files.
    CutShort (lines_of (task.gives (first files) (trace_text task.trace files))) sink sink_now)
RunEnds task first has shelf shelf_now sink sink_now (Err fails.Memory) =
    (sink_now.written ≡ sink.written) × ForSome shelf.files (λ files.
    TakesLittle (trace_text task.trace files) (shelf.slots 1) (shelf_now.slots 1))

-- the same where the call has the text
abbrev pub TaskEnds : {A : Type 0} → Task A → A → ShelfState → ShelfState → SinkState → SinkState
    → Result (Unit {0}) RunFail → Type 0
TaskEnds task text shelf shelf_now sink sink_now result =
    RunEnds task (λ files. text) (HasTrace task.trace (task.opens text)) shelf shelf_now sink sink_now result

-- a netlist on the named trace
abbrev pub net_task : List ℕ → Task Circuit
net_task name = record {
  trace = Some name;
  gives = NetGives;
  due = NetRows;
  opens = λ net. ⊤;
  leaves = λ net. ⊥;
}
