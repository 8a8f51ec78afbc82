-- What the parts of a call do.
use Rattle.std.specs.Prelude.{◌≡◌, ℕ, ◌+◌, false, nat_eq, List, [], ◌∷◌, length}
use Rattle.pbs_base.specs.declared.entry.Entry.{Entry}
use Rattle.pbs_base.specs.declared.entry.Entry.TheVariants as entry
use Rattle.trace_text.specs.Traces.{rows}
use Rattle.trace_text.specs.Headers.{NoHeader, Trace, Traced, headed, header_order}
use Rattle.trace_text.specs.States.{BegunAfter, ReaderState, head_phase, rows_from, row_then, row_phase}
use Rattle.trace_text.specs.declared.answers.Head.{Head}
use Rattle.trace_text.specs.declared.answers.Head.TheVariants as head
use Rattle.trace_text.specs.declared.answers.Row.{Row}
use Rattle.trace_text.specs.declared.answers.Row.TheVariants as answer

-- the answer to a good row
abbrev pub row_of : Entry → Row
row_of (entry.Vector x) = answer.Vector x
row_of entry.Reset = answer.Reset

-- a byte doesn't end the line, or it does
abbrev pub ByteFor : Row → ReaderState → ReaderState → ℕ → Type 0
ByteFor answer.More before now c = (nat_eq c 10 ≡ false) × (now.used ≡ before.used + 1)
ByteFor (answer.Vector x) before now c = (c ≡ 10) × (now.used ≡ before.used + 1)
ByteFor answer.Reset before now c = (c ≡ 10) × (now.used ≡ before.used + 1)
ByteFor answer.End before now c = ⊥
ByteFor (answer.Refused refusal) before now c = Unit {0}

-- one byte was taken
pub record TakesByte (before now : ReaderState) (c : ℕ) (row : Row) : Type 0 where
  pub gives : (rest : List ℕ) → rows_from before (c ∷ rest) ≡ row_then row (rows_from now rest)
  pub ports : now.ports ≡ before.ports
  pub order : now.order ≡ before.order
  pub phase : now.phase ≡ row_phase row
  pub byte : ByteFor row before now c
  pub begun : BegunAfter row now

abbrev pub IsAnswer : Row → Type 0
IsAnswer answer.More = ⊥
IsAnswer (answer.Vector x) = Unit {0}
IsAnswer answer.Reset = Unit {0}
IsAnswer answer.End = Unit {0}
IsAnswer (answer.Refused refusal) = Unit {0}

-- the text ended
pub record EndsText (before now : ReaderState) (row : Row) : Type 0 where
  pub gives : rows_from before [] ≡ row_then row (rows_from now [])
  pub ports : now.ports ≡ before.ports
  pub order : now.order ≡ before.order
  pub phase : now.phase ≡ row_phase row
  pub used : now.used ≡ before.used
  pub ended : IsAnswer row
  pub begun : BegunAfter row now

-- what was answered to the header's line, and the rows of the lines behind it
abbrev pub line_then : Head → ReaderState → List (List ℕ) → Trace
line_then head.More now lines = Traced (rows now.order now.used lines)
line_then head.Ready now lines = Traced (rows now.order now.used lines)
line_then (head.Refused refusal) now lines = NoHeader refusal

abbrev pub IsVerdict : Head → Type 0
IsVerdict head.More = ⊥
IsVerdict head.Ready = Unit {0}
IsVerdict (head.Refused refusal) = Unit {0}

-- the header's line was ended: what the verdict on it is, and what follows
pub record EndsHeader (before now : ReaderState) (newlines : ℕ) (found : Head) : Type 0 where
  pub gives : (lines : List (List ℕ))
      → headed (header_order before.ports before.begun) (length before.begun + newlines) lines
      ≡ line_then found now lines
  pub ports : now.ports ≡ before.ports
  pub phase : now.phase ≡ head_phase found
  pub begun : found ≡ head.Ready → now.begun ≡ []
  pub used : found ≡ head.Ready → now.used ≡ before.used + newlines
  pub ended : IsVerdict found
