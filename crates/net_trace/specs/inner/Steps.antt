-- Where a run on a trace stands between its steps.
use Rattle.std.specs.Prelude.{◌≡◌, ℕ, ◌≤◌, ◌<◌, Bool, true, false, List, [], ◌∷◌, ◌++◌, length, drop, take}
use Rattle.std.specs.Prelude.{Option, Some, None, Result, Ok, Err, slice_index_or}
use Rattle.std.specs.Io.KnownBytes.{IsAtEnd, append_known, prepend_known}
use Rattle.pbs_io.specs.Outside.{ShelfState, SinkState, Rose, WritesFront}
use Rattle.pbs_base.specs.declared.entry.Entry.{Entry}
use Rattle.pbs_base.specs.declared.refusal.Refusal.{Refusal}
use Rattle.net_core.specs.Rows.{Row}
use Rattle.net_core.specs.Circuits.{Circuit, IsCircuit, output_gate, output_names}
use Rattle.net_eval.specs.Simulated.{IsZeroRun, StandsAfter}
use Rattle.net_eval.specs.States.{IsFresh}
use Rattle.trace_text.specs.Held.{Holds, PassesOn}
use Rattle.trace_text.specs.HeldBytes.{held_bytes}
use Rattle.trace_text.specs.Reports.{end_line, row_line}
use Rattle.trace_text.specs.Traces.{Rows, lines, rows}
use Rattle.trace_text.specs.Headers.{Traced, NoHeader, trace}
use Rattle.trace_text.specs.States.{ReaderState, has_newline, rows_from}
use Rattle.pbs_base.specs.declared.entry.Entry.TheVariants.{Vector, Reset}
use Rattle.trace_text.specs.declared.answers.Row as answers
use Rattle.trace_text.specs.declared.answers.Row.TheVariants as answer
use Rattle.trace_text.specs.declared.answers.Phase.TheVariants as phase
use Rattle.net_trace.specs.declared.fail.RunFail.{RunFail}
use Rattle.net_trace.specs.declared.fail.RunFail.TheVariants as fails
use Rattle.net_trace.specs.declared.header.Headed.{Headed}
use Rattle.net_trace.specs.declared.header.Headed.TheVariants as headed
use Rattle.net_trace.specs.declared.rows.Progress.{Progress}
use Rattle.net_trace.specs.declared.rows.Progress.TheVariants as progress
use Rattle.net_trace.specs.declared.report.Report.{Report}
use Rattle.net_trace.specs.Outcomes.{NetGives, shown_rows}
use Rattle.net_trace.specs.Taken.{Stops, NetRows}
use Rattle.net_trace.specs.Endings.{Wrote, CutShort, lines_with, lines_of}

-- ---- the report

-- no row was made yet
pub record IsNew (net : Circuit) (report : Report) : Type 0 where
  pub same_net : report.sim.net ≡ net
  pub circuit : IsCircuit net
  -- every list of entries has a run
  pub runs : (v : List Entry) → (rows : ℕ → Row) × IsZeroRun net v rows
  pub fresh : IsFresh report.sim
  pub held : held_bytes report.held ≡ []
  pub rows : report.rows ≡ 0

-- the line of the last row was added to what is held
pub record ShowsLine {T E : Type 0} (old new : Report) (before now : SinkState) (result : Result T E) : Type 0 where
  pub sim : new.sim ≡ old.sim
  pub rows : new.rows ≡ old.rows
  pub held : (on : ℕ → Bool)
      → ((n : ℕ) → n < length (output_names old.sim.net)
      → on n ≡ slice_index_or old.sim.gates (output_gate old.sim.net n) false)
      → Holds before now (held_bytes old.held) (held_bytes new.held)
      (row_line (output_names old.sim.net) old.rows on) result

-- the lines of row 0 and of these entries were written or are held
pub record Shown (net : Circuit) (before : SinkState) (entries : List Entry) (report : Report) (now : SinkState) :
    Type 0 where
  pub same_net : report.sim.net ≡ net
  pub circuit : IsCircuit net
  pub runs : (v : List Entry) → (rows : ℕ → Row) × IsZeroRun net v rows
  pub count : report.rows ≡ length entries
  pub stands : StandsAfter entries report.sim
  pub later : before.faults ≤ now.faults
  pub passed : (rows : ℕ → Row) → IsZeroRun net entries rows
      → PassesOn before.written now.written (shown_rows net rows (length entries)) (held_bytes report.held)

-- a fault within these lines, or within what follows them
pub record ShownInPart (net : Circuit) (before : SinkState) (entries : List Entry) (behind : List ℕ)
    (now : SinkState) : Type 0 where
  pub rose : Rose before.faults now.faults
  pub later : before.faults ≤ now.faults
  pub front : (rows : ℕ → Row) → IsZeroRun net entries rows
      → WritesFront before.written now.written (shown_rows net rows (length entries) ++ behind)

-- these lines and what follows them were written
pub record ShownWhole (net : Circuit) (before : SinkState) (entries : List Entry) (behind : List ℕ)
    (now : SinkState) : Type 0 where
  pub later : before.faults ≤ now.faults
  pub written : (rows : ℕ → Row) → IsZeroRun net entries rows
      → now.written ≡ append_known before.written (shown_rows net rows (length entries) ++ behind)

-- ---- the trace

-- the rows behind these entries
abbrev pub after : List Entry → Rows → Rows
after entries behind = record { entries = entries ++ behind.entries; ending = behind.ending }

-- the bytes `done` of the trace were read, and `behind` is the unused part of the piece. The lines of the header, whose
-- order this is, and of the entries are ended, and the reader goes on from there
pub record Read (ports : List (List ℕ)) (reader : ReaderState) (done behind : List ℕ) (entries : List Entry) : Type 0
  where
    pub front : List ℕ
    pub begun : List ℕ
    pub order : List ℕ
    pub split : done ≡ (front ++ 10 ∷ []) ++ begun
    pub open_line : has_newline begun ≡ false
    pub runs : (rest : List ℕ) → trace ports ((front ++ 10 ∷ []) ++ rest)
        ≡ Traced (after entries (rows order (length (front ++ 10 ∷ [])) (lines rest)))
    pub same : (rest : List ℕ) → rows_from reader (behind ++ rest)
        ≡ rows order (length (front ++ 10 ∷ [])) (lines (begun ++ (behind ++ rest)))
    pub used : reader.used ≡ length done

-- the rest of the trace, behind the last piece, is empty
pub record ReadAll (ports : List (List ℕ)) (reader : ReaderState) (done : List ℕ) (entries : List Entry) : Type 0 where
  pub follows : trace ports done ≡ Traced (after entries (rows_from reader []))

-- these bytes were taken of what was left, and no more than 67,108,865
pub record TakenOf (first now : Option (List ℕ)) (taken : List ℕ) : Type 0 where
  pub is : first ≡ prepend_known taken now
  pub few : length taken ≤ 67108865

-- ---- the shelf

-- slot 1 was read, if anything was
pub record OnlyReads (before now : ShelfState) : Type 0 where
  pub files : now.files ≡ before.files
  pub later : before.faults ≤ now.faults
  pub sound : before.sound ≡ true → now.sound ≡ true
  pub other : now.slots 0 ≡ before.slots 0
  pub stands : (now.slots 1).stands ≡ (before.slots 1).stands

-- a read failed, and not by itself on a sound shelf with a file in the slot
pub record ReadingFailed (before now : ShelfState) : Type 0 where
  pub rose : Rose before.faults now.faults
  pub never : before.sound ≡ true → (before.slots 1).stands ≡ true → ⊥

-- ---- the steps

-- the entry of a good row
abbrev pub entry_in : answers.Row → Option Entry
entry_in (answer.Vector x) = Some (Vector x)
entry_in answer.Reset = Some Reset
entry_in row = None

-- what was found of a header
abbrev pub Heads : List (List ℕ) → ShelfState → ShelfState → ReaderState → List ℕ → Headed → Type 0
Heads ports before now reader buffer (headed.Ready unused) =
    (unused.from ≤ unused.to) × (unused.to ≤ length buffer) × (reader.phase ≡ phase.Rows)
    × (done : List ℕ) × Read ports reader done (drop unused.from (take unused.to buffer)) []
    × TakenOf (before.slots 1).left (now.slots 1).left (done ++ drop unused.from (take unused.to buffer))
Heads ports before now reader buffer headed.ReadyAtEnd =
    IsAtEnd (now.slots 1).left × (reader.phase ≡ phase.Rows)
    × (done : List ℕ) × ReadAll ports reader done [] × TakenOf (before.slots 1).left (now.slots 1).left done
Heads ports before now reader buffer (headed.Refused r) =
    (taken : List ℕ) × TakenOf (before.slots 1).left (now.slots 1).left taken
    × ((rest : List ℕ) → (now.slots 1).left ≡ Some rest → trace ports (taken ++ rest) ≡ NoHeader r)
Heads ports before now reader buffer headed.Fault =
    ReadingFailed before now × (taken : List ℕ) × TakenOf (before.slots 1).left (now.slots 1).left taken
    × (has_newline taken ≡ false) × (length taken ≤ 67108864)
Heads ports before now reader buffer headed.Memory =
    (taken : List ℕ) × TakenOf (before.slots 1).left (now.slots 1).left taken
    × ((header behind : List ℕ) → taken ≡ header ++ 10 ∷ behind → has_newline header ≡ false
    → length behind ≤ 65536)

-- where the lines in front of a refusal were to be written
abbrev pub Refuses : Circuit → SinkState → List Entry → Refusal → SinkState → Result (Unit {0}) RunFail → Type 0
Refuses net before entries r now (Err (fails.Refused s)) = (s ≡ r) × ShownWhole net before entries [] now
Refuses net before entries r now (Err fails.WriteFault) = ShownInPart net before entries [] now
Refuses net before entries r now result = ⊥

-- what the text gives was written up to its end or up to a refusal, or its writing was cut short
abbrev pub Finishes : Circuit → SinkState → List ℕ → SinkState → Result (Unit {0}) RunFail → Type 0
Finishes net before text now (Ok done) = Wrote (lines_with (NetGives net text) None) before now
Finishes net before text now (Err (fails.Refused r)) = Wrote (lines_with (NetGives net text) (Some r)) before now
Finishes net before text now (Err fails.WriteFault) =
    Rose before.faults now.faults × CutShort (lines_of (NetGives net text)) before now
Finishes net before text now (Err fails.ReadFault) = ⊥
Finishes net before text now (Err fails.Memory) = ⊥

pub record FinishesLater (net : Circuit) (before : SinkState) (text : List ℕ) (now : SinkState)
    (result : Result (Unit {0}) RunFail) : Type 0 where
  pub later : before.faults ≤ now.faults
  pub finishes : Finishes net before text now result

-- where the last line was to be written
abbrev pub Ends : Circuit → SinkState → List Entry → SinkState → Result (Unit {0}) RunFail → Type 0
Ends net before entries now (Ok done) = ShownWhole net before entries (end_line (length entries)) now
Ends net before entries now (Err fails.WriteFault) = ShownInPart net before entries (end_line (length entries)) now
Ends net before entries now result = ⊥

-- a piece was used up, behind which the run goes on, or a row was refused or writing failed, whatever follows
abbrev pub PieceEnds : Circuit → SinkState → List ℕ → ReaderState → Report → SinkState → Result (Unit {0}) RunFail
    → Type 0
PieceEnds net before done reader report now (Ok x) =
    (entries : List Entry) × Read net.inputs reader done [] entries × Shown net before entries report now
PieceEnds net before done reader report now (Err fail) =
    (before.faults ≤ now.faults) × ((rest : List ℕ) → Finishes net before (done ++ rest) now (Err fail))

-- where the run stands when a piece is used up
pub record Standing (net : Circuit) (before : SinkState) (first left : Option (List ℕ)) (reader : ReaderState)
    (report : Report) (now : SinkState) : Type 0 where
  pub done : List ℕ
  pub entries : List Entry
  pub read : Read net.inputs reader done [] entries
  pub taken : first ≡ prepend_known done left
  pub shown : Shown net before entries report now

-- how the run ends, by what was left in the slot at first and what is left there now
abbrev pub RowsEnd : Circuit → SinkState → Option (List ℕ) → Option (List ℕ) → SinkState
    → Result (Unit {0}) RunFail → Type 0
RowsEnd net before first left now (Ok done) =
    IsAtEnd left × ((text : List ℕ) → first ≡ Some text → Finishes net before text now (Ok done))
RowsEnd net before first left now (Err fails.ReadFault) =
    ((text : List ℕ) → first ≡ Some text → CutShort (lines_of (NetGives net text)) before now)
    × (taken : List ℕ) × (lines : List ℕ) × (first ≡ prepend_known taken left) × Stops (NetRows net) taken lines
    × (now.written ≡ append_known before.written lines)
RowsEnd net before first left now (Err fail) =
    (text : List ℕ) → first ≡ Some text → Finishes net before text now (Err fail)

pub record EndsRows (net : Circuit) (before : SinkState) (first left : Option (List ℕ)) (now : SinkState)
    (result : Result (Unit {0}) RunFail) : Type 0 where
  pub ends : RowsEnd net before first left now result
  pub rose : result ≡ Err fails.WriteFault → Rose before.faults now.faults
  pub memory : result ≡ Err fails.Memory → ⊥
  pub later : before.faults ≤ now.faults
  pub taken : List ℕ
  pub few : TakenOf first left taken

-- more bytes were used, and the reader goes on
pub record GoesOnReading (before now : ReaderState) (report : Report) : Type 0 where
  pub phase : now.phase ≡ phase.Rows
  pub used : before.used < now.used
  pub within : before.used ≤ 67108864
  pub count : report.rows ≤ now.used

-- one piece more was read and used up, or the run has ended
abbrev pub Advances : Circuit → SinkState → Option (List ℕ) → Option (List ℕ) → ReaderState → Report → SinkState
    → Result Progress RunFail → Type 0
Advances net before first left reader report now (Ok progress.More) =
    Standing net before first left reader report now
Advances net before first left reader report now (Ok progress.Done) = EndsRows net before first left now (Ok tt)
Advances net before first left reader report now (Err fail) = EndsRows net before first left now (Err fail)

-- the header was read, and this is the unused part of its piece
pub record Begins (net : Circuit) (first left : Option (List ℕ)) (reader : ReaderState) (behind : List ℕ) : Type 0
  where
    pub done : List ℕ
    pub read : Read net.inputs reader done behind []
    pub taken : TakenOf first left (done ++ behind)

-- how the run of a text that was opened ends
abbrev pub OpenedEnds : Circuit → ShelfState → ShelfState → SinkState → SinkState → Result (Unit {0}) RunFail → Type 0
OpenedEnds net before now sink sink_now (Err fails.Memory) =
    (sink_now ≡ sink) × (taken : List ℕ) × TakenOf (before.slots 1).left (now.slots 1).left taken
    × ((header behind : List ℕ) → taken ≡ header ++ 10 ∷ behind → has_newline header ≡ false
    → length behind ≤ 65536)
OpenedEnds net before now sink sink_now result =
    EndsRows net sink (before.slots 1).left (now.slots 1).left sink_now result
