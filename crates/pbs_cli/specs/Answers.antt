-- What each command answers over the named files.
use Rattle.std.specs.Prelude.{◌≡◌, ◌++◌, ◌≤◌, ℕ, true, length, List, [], codes, Option, Some, None, ⊤}
use Rattle.std.specs.Io.KnownBytes.{IsAtEnd}
use Rattle.pbs_base.specs.declared.refusal.Refusal.{Refusal}
use Rattle.pbs_io.specs.Outside.{ShelfState, NamedFile, content_of, has_file}
use Rattle.pbs_io.specs.Refusal.{refusal_line}
use Rattle.pbs_ast.specs.declared.syntax.Spec.{Spec}
use Rattle.net_trace.specs.Outcomes.{Outcome, refused}
use Rattle.net_trace.specs.Endings.{Task, trace_text, HasTrace, TraceEnded}
use Rattle.pbs_engine.specs.Accepted.{Breaks, IsAccepted}
use Rattle.pbs_engine.specs.Right.{IsMapOf, IsVerilogOf}
use Rattle.pbs_engine.specs.Migrated.{BreaksMigration, IsMigrationOf}
use Rattle.pbs_engine.specs.Outcomes.{text_task, netlist_task}
use Rattle.pbs_engine.specs.Soaked.{soak_counts}
use Rattle.soak_run.specs.Soaks.{soak_line, spec_text}
use Rattle.pbs_cli.specs.Words.{Job, Check, Compile, Map, Migrate, Sim, Trace, Command, Run, Soak, Usage}

-- ---- what is done with a text

-- `check`: one line, or the refusal by the first broken rule
pub data Checks (text : List ℕ) : Outcome → Type 0 where
  OnAccepted : (spec : Spec) → IsAccepted text spec
      → Checks text (record { lines = codes "accepted\n"; refusal = None })
  OnBroken : {r : Refusal} → Breaks text r → Checks text (refused r)

-- `compile`: Verilog of the specification, or its refusal
pub data Compiled (text : List ℕ) : Outcome → Type 0 where
  OnVerilog : {verilog : List ℕ} → IsVerilogOf text verilog
      → Compiled text (record { lines = verilog; refusal = None })
  OnNoVerilog : {r : Refusal} → Breaks text r → Compiled text (refused r)

-- `map`: the map of the specification, or its refusal
pub data Mapped (text : List ℕ) : Outcome → Type 0 where
  OnMap : {map : List ℕ} → IsMapOf text map → Mapped text (record { lines = map; refusal = None })
  OnNoMap : {r : Refusal} → Breaks text r → Mapped text (refused r)

-- `migrate`: the canonical text of the specification with version 2, or its refusal
pub data Migrated (text : List ℕ) : Outcome → Type 0 where
  OnMigration : {migrated : List ℕ} → IsMigrationOf text migrated → length migrated ≤ 1048576
      → Migrated text (record { lines = migrated; refusal = None })
  OnNoMigration : {r : Refusal} → BreaksMigration text r → Migrated text (refused r)

-- `soak`: the line of the specification for the number, or its refusal
pub data Soaked (n : ℕ) : Outcome → Type 0 where
  OnSoak : (spec : Spec) → IsAccepted (spec_text n) spec
      → Soaked n (record { lines = soak_line n (soak_counts spec n); refusal = None })
  OnNoSoak : {r : Refusal} → Breaks (spec_text n) r → Soaked n (refused r)

-- a task that reads no trace
abbrev pub text_alone : (List ℕ → Outcome → Type 0) → Task (List ℕ)
text_alone gives = record {
  trace = None;
  gives = λ text bytes. gives text;
  due = λ text taken lines. ⊥;
  opens = λ text. ⊥;
  leaves = λ text. ⊤;
}

-- what each command does with the text of its first file
abbrev pub task_of : Job → Task (List ℕ)
task_of Check = text_alone Checks
task_of Compile = text_alone Compiled
task_of Map = text_alone Mapped
task_of Migrate = text_alone Migrated
task_of (Sim name) = netlist_task name
task_of (Trace name) = text_task name

-- the most bytes that this text may have
abbrev pub most_of : Job → ℕ
most_of Check = 1048576
most_of Compile = 1048576
most_of Map = 1048576
most_of Migrate = 1048576
most_of (Sim name) = 67108864
most_of (Trace name) = 1048576

-- ---- the answers

pub record Answer : Type 0 where
  pub status : ℕ
  pub text : List ℕ

-- the lines, and behind them the line of the refusal
abbrev pub answered : List ℕ → Option Refusal → Answer
answered lines None = record { status = 0; text = lines }
answered lines (Some r) = record { status = 1; text = lines ++ refusal_line r }

pub data Answers (gives : Outcome → Type 0) : Answer → Type 0 where
  OnOutcome : (outcome : Outcome) → gives outcome → Answers gives (answered outcome.lines outcome.refusal)

-- these are the answers to the command over these files; a file that isn't there counts as an empty one
abbrev pub Defines : Command → List NamedFile → Answer → Type 0
Defines (Run job first) files answer =
    Answers ((task_of job).gives (content_of files first) (trace_text (task_of job).trace files)) answer
Defines (Soak n) files answer = Answers (Soaked n) answer
Defines Usage files answer = answer ≡ record { status = 2; text = [] }

-- the texts of the answers with this status
abbrev pub texts_with : (Answer → Type 0) → ℕ → List ℕ → Type 0
texts_with defines status text = defines (record { status = status; text = text })

-- the texts of the answers
abbrev pub texts_of : (Answer → Type 0) → List ℕ → Type 0
texts_of defines text = (status : ℕ) × defines (record { status = status; text = text })

-- ---- the files of a command

-- the words need a file
abbrev pub NeedsFile : Command → Type 0
NeedsFile (Run job first) = ⊤
NeedsFile (Soak n) = ⊥
NeedsFile Usage = ⊥

-- the first file is refused, or the words need no second one: then the second slot is left alone
abbrev pub NeedsNoSecond : Command → List NamedFile → Type 0
NeedsNoSecond (Run job first) files = (task_of job).leaves (content_of files first)
NeedsNoSecond (Soak n) files = ⊤
NeedsNoSecond Usage files = ⊤

-- the files have those that the command needs: a second one only where nothing is refused before it is opened
abbrev pub HasNeeded : Command → List NamedFile → Type 0
HasNeeded (Run job first) files =
    (has_file files first ≡ true)
    × HasTrace (task_of job).trace ((task_of job).opens (content_of files first)) files
HasNeeded (Soak n) files = ⊤
HasNeeded Usage files = ⊤

-- nothing is left to read of the first file, nor of the trace where the command has one
abbrev pub ReadToEnd : Command → ShelfState → Type 0
ReadToEnd (Run job first) shelf = IsAtEnd (shelf.slots 0).left × TraceEnded (task_of job).trace shelf
ReadToEnd (Soak n) shelf = ⊤
ReadToEnd Usage shelf = ⊤

-- the text of the first file, and the most bytes that it may have
abbrev pub first_of : Command → List NamedFile → List ℕ
first_of (Run job first) files = content_of files first
first_of (Soak n) files = []
first_of Usage files = []

abbrev pub first_most : Command → ℕ
first_most (Run job first) = most_of job
first_most (Soak n) = 0
first_most Usage = 0

-- the text of the trace, none where the command has no trace
abbrev pub trace_of : Command → List NamedFile → List ℕ
trace_of (Run job first) files = trace_text (task_of job).trace files
trace_of (Soak n) files = []
trace_of Usage files = []

-- the line of row 0 and those of the rows whose newlines are among the bytes that were taken of the trace
abbrev pub DueRows : Command → List NamedFile → List ℕ → List ℕ → Type 0
DueRows (Run job first) files = (task_of job).due (content_of files first)
DueRows (Soak n) files = λ taken lines. ⊥
DueRows Usage files = λ taken lines. ⊥
