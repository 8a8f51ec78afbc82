-- What a reader of a trace is seen as, and what the trace is from there on.
use Rattle.std.specs.Prelude.{◌≡◌, ℕ, ◌+◌, ◌-◌, ◌≤◌, Bool, true, false, nat_eq, List, [], ◌++◌, length, drop}
use Rattle.std.specs.List.{list_any}
use Rattle.pbs_base.specs.declared.entry.Entry.TheVariants as entry
use Rattle.trace_text.specs.Traces.{Rows, rows, no_rows, followed, Good, Wrong, lines, first_line, right}
use Rattle.trace_text.specs.Steps.{ArePorts}
use Rattle.trace_text.specs.Headers.{Trace, NoHeader, Traced, trace}
use Rattle.trace_text.specs.declared.answers.Phase.{Phase}
use Rattle.trace_text.specs.declared.answers.Phase.TheVariants as phase
use Rattle.trace_text.specs.declared.answers.Row.{Row}
use Rattle.trace_text.specs.declared.answers.Row.TheVariants as answer
use Rattle.trace_text.specs.declared.answers.Head.{Head}
use Rattle.trace_text.specs.declared.answers.Head.TheVariants as head

pub record ReaderState : Type 0 where
  pub ports : List (List ℕ)
  pub phase : Phase
  -- the number of bytes used so far
  pub used : ℕ
  -- the bytes of the line that is begun
  pub begun : List ℕ
  -- the header's order of ports, once it was read
  pub order : List ℕ

abbrev pub state_of : List (List ℕ) → Phase → ℕ → List ℕ → List ℕ → ReaderState
state_of ports phase used begun order =
    record { ports = ports; phase = phase; used = used; begun = begun; order = order }

-- before the first byte
abbrev pub start : List (List ℕ) → ReaderState
start ports = state_of ports phase.Header 0 [] []

-- the trace of what was read so far and this text, before the header's line is ended
abbrev pub trace_from : ReaderState → List ℕ → Trace
trace_from s text = trace s.ports (s.begun ++ text)

-- the rows from the line that is begun on, once the header was read
abbrev pub rows_from : ReaderState → List ℕ → Rows
rows_from s text = rows s.order (s.used - length s.begun) (lines (s.begun ++ text))

-- the row that was answered, and what follows it
abbrev pub row_then : Row → Rows → Rows
row_then answer.More behind = behind
row_then (answer.Vector x) behind = followed (Good (entry.Vector x)) behind
row_then answer.Reset behind = followed (Good entry.Reset) behind
row_then answer.End behind = no_rows
row_then (answer.Refused refusal) behind = followed (Wrong refusal) behind

-- what was answered at the header, and what follows from this state
abbrev pub head_then : Head → ReaderState → List ℕ → Trace
head_then head.More s text = trace_from s text
head_then head.Ready s text = Traced (rows_from s text)
head_then (head.Refused refusal) s text = NoHeader refusal

-- nothing stands behind the last piece
abbrev pub IsRest : Bool → List ℕ → Type 0
IsRest last rest = last ≡ true → rest ≡ []

abbrev pub has_newline : List ℕ → Bool
has_newline text = list_any (λ c. nat_eq c 10) text

abbrev pub row_phase : Row → Phase
row_phase answer.More = phase.Rows
row_phase (answer.Vector x) = phase.Rows
row_phase answer.Reset = phase.Rows
row_phase answer.End = phase.Done
row_phase (answer.Refused refusal) = phase.Done

abbrev pub head_phase : Head → Phase
head_phase head.More = phase.Header
head_phase head.Ready = phase.Rows
head_phase (head.Refused refusal) = phase.Done

-- the begun line of a row
pub record IsInRow (s : ReaderState) : Type 0 where
  pub used : length s.begun ≤ s.used
  pub within : s.used ≤ 67108864
  pub right : right (length s.order) s.begun ≡ length s.begun
  pub few : length s.order ≤ 64
  pub ports : ArePorts s.order

-- no line was ended, more bytes are to come, and no rule is broken yet
pub record IsMore (now : ReaderState) (piece : List ℕ) (last : Bool) : Type 0 where
  pub open_line : has_newline piece ≡ false
  pub goes_on : last ≡ false
  pub within : now.used ≤ 67108864
  pub row : now.phase ≡ phase.Rows → IsInRow now

-- where the bytes are used up to the end of the line, or of the piece
pub record IsUsed (before now : ReaderState) (piece : List ℕ) (used : ℕ) : Type 0 where
  pub line : used ≡ length (first_line piece)
  pub count : now.used ≡ before.used + used

-- how many bytes were used: a refusal may come anywhere in the piece
abbrev pub UsedByRow : Row → ReaderState → ReaderState → List ℕ → ℕ → Bool → Type 0
UsedByRow answer.More before now piece used last = IsUsed before now piece used × IsMore now piece last
UsedByRow (answer.Vector x) before now piece used last = IsUsed before now piece used
UsedByRow answer.Reset before now piece used last = IsUsed before now piece used
UsedByRow answer.End before now piece used last = IsUsed before now piece used
UsedByRow (answer.Refused refusal) before now piece used last = Unit {0}

abbrev pub UsedByHead : Head → ReaderState → ReaderState → List ℕ → ℕ → Bool → Type 0
UsedByHead head.More before now piece used last = IsUsed before now piece used × IsMore now piece last
UsedByHead head.Ready before now piece used last = IsUsed before now piece used
UsedByHead (head.Refused refusal) before now piece used last = Unit {0}

-- no line is begun behind the end of a row
abbrev pub BegunAfter : Row → ReaderState → Type 0
BegunAfter answer.More now = Unit {0}
BegunAfter (answer.Vector x) now = now.begun ≡ []
BegunAfter answer.Reset now = now.begun ≡ []
BegunAfter answer.End now = Unit {0}
BegunAfter (answer.Refused refusal) now = Unit {0}

-- a line was ended by a newline of the piece, or by the end of the text
pub record IsLineEnd (now : ReaderState) (piece : List ℕ) (last : Bool) : Type 0 where
  pub begun : now.begun ≡ []
  pub newline : last ≡ false → has_newline piece ≡ true

abbrev pub EndsLine : Row → ReaderState → List ℕ → Bool → Type 0
EndsLine answer.More now piece last = Unit {0}
EndsLine (answer.Vector x) now piece last = IsLineEnd now piece last
EndsLine answer.Reset now piece last = IsLineEnd now piece last
EndsLine answer.End now piece last = Unit {0}
EndsLine (answer.Refused refusal) now piece last = Unit {0}

-- a call read a row, or a part of it
pub record ReadsRow (before now : ReaderState) (piece : List ℕ) (last : Bool) (used : ℕ) (row : Row) : Type 0 where
  pub gives : (rest : List ℕ) → IsRest last rest
      → rows_from before (piece ++ rest) ≡ row_then row (rows_from now (drop used piece ++ rest))
  pub ports : now.ports ≡ before.ports
  pub order : now.order ≡ before.order
  pub phase : now.phase ≡ row_phase row
  pub within : used ≤ length piece
  pub bytes : UsedByRow row before now piece used last
  pub line : EndsLine row now piece last

-- a call read the header, or a part of it
pub record ReadsHead (before now : ReaderState) (piece : List ℕ) (last : Bool) (used : ℕ) (found : Head) : Type 0 where
  pub gives : (rest : List ℕ) → IsRest last rest
      → trace_from before (piece ++ rest) ≡ head_then found now (drop used piece ++ rest)
  pub ports : now.ports ≡ before.ports
  pub phase : now.phase ≡ head_phase found
  pub within : used ≤ length piece
  pub bytes : UsedByHead found before now piece used last
  pub line : found ≡ head.Ready → IsLineEnd now piece last

-- ---- what holds of every reader

-- the begun line of the header
pub record IsInHeader (s : ReaderState) : Type 0 where
  pub used : s.used ≡ length s.begun
  pub order : s.order ≡ []
  pub within : s.used ≤ 67108864
  pub open_line : has_newline s.begun ≡ false

pub record IsReader (s : ReaderState) (capacity : ℕ) : Type 0 where
  pub ports : length s.ports ≤ 64
  pub room : 64 ≤ capacity
  pub header : s.phase ≡ phase.Header → IsInHeader s
  pub rows : s.phase ≡ phase.Rows → IsInRow s
