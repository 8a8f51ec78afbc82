-- What the parts of a command give.
use Rattle.std.specs.Prelude.{◌≡◌, ℕ, ◌+◌, ◌<◌, ◌≤◌, List, length, Option, Some, None, Result, Ok, Err, Vec, ⊤}
use Rattle.std.specs.Prelude.{OnOk}
use Rattle.std.specs.Option.{ForSome}
use Rattle.std.specs.Io.KnownBytes.{append_known, IsAtEnd}
use Rattle.std.specs.declared.alloc.Global.{Global}
use Rattle.pbs_base.specs.declared.refusal.Refusal.{Refusal}
use Rattle.pbs_base.specs.declared.refusal.Subject.{Subject}
use Rattle.pbs_base.specs.declared.refusal.Subject.TheVariants as subject
use Rattle.pbs_io.specs.Outside.{ShelfState, SinkState, GoesOn, Rose, WritesFront, content_of}
use Rattle.pbs_io.specs.Refusal.{refusal_line}
use Rattle.pbs_io.specs.Taken.{TakesAtMost}
use Rattle.pbs_io.specs.Load.{HasFailed}
use Rattle.net_trace.specs.Outcomes.{Outcome}
use Rattle.net_trace.specs.Taken.{TakesLittle}
use Rattle.net_trace.specs.Endings.{Task, trace_text, Wrote, CutShort, Stopped, ReadFailed, RunEnds, TaskEnds}
use Rattle.net_trace.specs.Endings.{lines_with, lines_of}
use Rattle.net_trace.specs.declared.fail.RunFail.{RunFail}
use Rattle.net_trace.specs.declared.fail.RunFail.TheVariants as fails
use Rattle.pbs_cli.specs.Words.{Job, Check, Compile, Map, Migrate, Sim, Trace, Command, Run, Soak, Usage}
use Rattle.pbs_cli.specs.Answers.{Defines, DueRows, HasNeeded, NeedsFile, NeedsNoSecond, ReadToEnd, task_of, most_of}
use Rattle.pbs_cli.specs.Answers.{first_of, first_most, trace_of, texts_with, texts_of}
use Rattle.pbs_cli.specs.declared.command.Job as words
use Rattle.pbs_cli.specs.declared.command.Job.TheVariants as word
use Rattle.pbs_cli.specs.declared.command.Command as line
use Rattle.pbs_cli.specs.declared.command.Command.TheVariants as command
use Rattle.pbs_cli.specs.declared.status.Status.{Status}
use Rattle.pbs_cli.specs.declared.status.Status.TheVariants as status

-- ---- words

-- the job that the program's words are
abbrev pub job_meant : words.Job → Job
job_meant word.Check = Check
job_meant word.Compile = Compile
job_meant word.Map = Map
job_meant word.Migrate = Migrate
job_meant (word.Sim name) = Sim name.now
job_meant (word.Trace name) = Trace name.now

abbrev pub meant : Option line.Command → Command
meant (Some (command.Run job first)) = Run (job_meant job) first.now
meant (Some (command.Soak n)) = Soak n
meant None = Usage

-- the number of a soak is small
abbrev pub IsFew : line.Command → Type 0
IsFew (command.Run job first) = ⊤
IsFew (command.Soak n) = n ≤ 1000

-- ---- the first file

abbrev pub subject_of : Job → Subject
subject_of Check = subject.Spec
subject_of Compile = subject.Spec
subject_of Map = subject.Spec
subject_of Migrate = subject.Spec
subject_of (Sim name) = subject.Netlist
subject_of (Trace name) = subject.Spec

-- rule 1: more bytes than such a text may have
abbrev pub too_long : Subject → ℕ → Refusal
too_long subject limit = record { subject = subject; rule = 1; span = record { start = limit; end = limit + 1 } }

abbrev pub FirstGives : Job → ShelfState → ShelfState → List ℕ → Result (Vec ℕ Global) RunFail → Type 0
FirstGives job before now name (Ok bytes) =
    ForSome before.files (λ files. bytes.items ≡ content_of files name) × IsAtEnd (now.slots 0).left
FirstGives job before now name (Err (fails.Refused r)) =
    (r ≡ too_long (subject_of job) (most_of job))
    × ForSome before.files (λ files. most_of job < length (content_of files name))
FirstGives job before now name (Err fails.ReadFault) = HasFailed before now name
FirstGives job before now name (Err fails.WriteFault) = ⊥
FirstGives job before now name (Err fails.Memory) = ⊤

-- the named file was read in slot 0, or is refused for its length
pub record ReadsFirst (job : Job) (before now : ShelfState) (name : List ℕ)
    (result : Result (Vec ℕ Global) RunFail) : Type 0 where
  pub goes_on : GoesOn before now
  pub other : now.slots 1 ≡ before.slots 1
  pub gives : FirstGives job before now name result
  pub few : ForSome before.files (λ files.
      TakesAtMost (most_of job + 1) (content_of files name) (before.slots 0) (now.slots 0))

-- ---- what is done with its text

-- how a call ends that reads nothing more
abbrev pub AloneEnds : (Outcome → Type 0) → SinkState → SinkState → Result (Unit {0}) RunFail → Type 0
AloneEnds gives before now (Ok done) = Wrote (lines_with gives None) before now
AloneEnds gives before now (Err (fails.Refused r)) = Wrote (lines_with gives (Some r)) before now
AloneEnds gives before now (Err fails.ReadFault) = ⊥
AloneEnds gives before now (Err fails.WriteFault) =
    Rose before.faults now.faults × CutShort (lines_of gives) before now
AloneEnds gives before now (Err fails.Memory) = now.written ≡ before.written

pub record EndsAlone (gives : Outcome → Type 0) (before now : SinkState) (result : Result (Unit {0}) RunFail) : Type 0
  where
    pub later : before.faults ≤ now.faults
    pub ends : AloneEnds gives before now result

-- how the task ends with the text
pub record Does (task : Task (List ℕ)) (text : List ℕ) (shelf shelf_now : ShelfState) (sink sink_now : SinkState)
    (result : Result (Unit {0}) RunFail) : Type 0 where
  pub goes_on : GoesOn shelf shelf_now
  pub other : shelf_now.slots 0 ≡ shelf.slots 0
  pub later : sink.faults ≤ sink_now.faults
  pub ends : TaskEnds task text shelf shelf_now sink sink_now result
  pub few : ForSome shelf.files (λ files.
      TakesAtMost 67108865 (trace_text task.trace files) (shelf.slots 1) (shelf_now.slots 1))
  pub leaves : task.leaves text → shelf_now.slots 1 ≡ shelf.slots 1

-- ---- whole commands

-- how a command ends, but for the line of a refusal
pub record Attempts (job : Job) (first : List ℕ) (shelf shelf_now : ShelfState) (sink sink_now : SinkState)
    (result : Result (Unit {0}) RunFail) : Type 0 where
  pub later : sink.faults ≤ sink_now.faults
  pub ends : RunEnds (task_of job) (λ files. content_of files first) (HasNeeded (Run job first)) shelf shelf_now
      sink sink_now result
  pub ended : OnOk result (IsAtEnd (shelf_now.slots 0).left)
  pub second : ForSome shelf.files (λ files.
      NeedsNoSecond (Run job first) files → shelf_now.slots 1 ≡ shelf.slots 1)
  pub few : ForSome shelf.files (λ files.
      TakesAtMost 67108865 (trace_of (Run job first) files) (shelf.slots 1) (shelf_now.slots 1))
  pub first_few : ForSome shelf.files (λ files.
      TakesAtMost (most_of job + 1) (content_of files first) (shelf.slots 0) (shelf_now.slots 0))

-- how the writing of a refusal's line ends
abbrev pub WritesLine : SinkState → SinkState → List ℕ → Status → Type 0
WritesLine before now line status.Refused = now.written ≡ append_known before.written line
WritesLine before now line status.WriteFault =
    Rose before.faults now.faults × WritesFront before.written now.written line
WritesLine before now line _ = ⊥

-- the status of what ended so: a refusal's line comes behind what was written
abbrev pub Finishes : SinkState → SinkState → Result (Unit {0}) RunFail → Status → Type 0
Finishes before now (Ok done) end = (end ≡ status.Accepted) × (now ≡ before)
Finishes before now (Err (fails.Refused r)) end = WritesLine before now (refusal_line r) end
Finishes before now (Err fails.ReadFault) end = (end ≡ status.ReadFault) × (now ≡ before)
Finishes before now (Err fails.WriteFault) end = (end ≡ status.WriteFault) × (now ≡ before)
Finishes before now (Err fails.Memory) end = (end ≡ status.Memory) × (now ≡ before)

abbrev pub Ends : Command → ShelfState → ShelfState → SinkState → SinkState → Status → Type 0
Ends command shelf shelf_now sink sink_now status.Accepted =
    ForSome shelf.files (λ files. Wrote (texts_with (Defines command files) 0) sink sink_now)
Ends command shelf shelf_now sink sink_now status.Refused =
    ForSome shelf.files (λ files. Wrote (texts_with (Defines command files) 1) sink sink_now)
Ends command shelf shelf_now sink sink_now status.Usage = ⊥
Ends command shelf shelf_now sink sink_now status.ReadFault =
    ReadFailed (HasNeeded command) shelf shelf_now × ForSome shelf.files (λ files.
    Stopped (texts_of (Defines command files)) (DueRows command files) (trace_of command files) shelf shelf_now
    sink sink_now)
Ends command shelf shelf_now sink sink_now status.WriteFault =
    Rose sink.faults sink_now.faults × ForSome shelf.files (λ files.
    CutShort (texts_of (Defines command files)) sink sink_now)
Ends command shelf shelf_now sink sink_now status.Memory =
    (sink_now.written ≡ sink.written) × ForSome shelf.files (λ files.
    TakesLittle (trace_of command files) (shelf.slots 1) (shelf_now.slots 1))

pub record EndsCommand (command : Command) (shelf shelf_now : ShelfState) (sink sink_now : SinkState)
    (end : Status) : Type 0 where
  pub needed : end ≡ status.ReadFault → NeedsFile command
  pub ends : Ends command shelf shelf_now sink sink_now end
  pub ended : end ≡ status.Accepted → ReadToEnd command shelf_now
  pub second : ForSome shelf.files (λ files. NeedsNoSecond command files → shelf_now.slots 1 ≡ shelf.slots 1)
  pub few : ForSome shelf.files (λ files.
      TakesAtMost 67108865 (trace_of command files) (shelf.slots 1) (shelf_now.slots 1))
  pub first : ForSome shelf.files (λ files.
      TakesAtMost (first_most command + 1) (first_of command files) (shelf.slots 0) (shelf_now.slots 0))
