-- How much of a trace was taken from the shelf, and what is written by then.
use Rattle.std.specs.Prelude.{◌≡◌, ℕ, ◌≤◌, false, List, [], ◌∷◌, ◌++◌, length}
use Rattle.pbs_io.specs.Outside.{SlotState}
use Rattle.pbs_io.specs.Taken.{TakenFrom}
use Rattle.pbs_base.specs.declared.entry.Entry.{Entry}
use Rattle.pbs_base.specs.declared.refusal.Refusal.{Refusal}
use Rattle.net_core.specs.Rows.{Row}
use Rattle.net_core.specs.Circuits.{Circuit}
use Rattle.net_eval.specs.Simulated.{IsZeroRun}
use Rattle.trace_text.specs.Traces.{End, Refused}
use Rattle.trace_text.specs.Traces.{Rows}
use Rattle.trace_text.specs.Headers.{Traced, trace}
use Rattle.trace_text.specs.States.{has_newline}
use Rattle.net_trace.specs.Outcomes.{shown_rows}

-- ---- what was taken

-- at most 65,536 bytes behind the newline of the header were taken
pub record TakesLittle (text : List ℕ) (slot slot_now : SlotState) : Type 0 where
  pub taken : List ℕ
  pub took : TakenFrom text slot slot_now taken
  pub little : (header behind : List ℕ) → taken ≡ header ++ 10 ∷ behind → has_newline header ≡ false
      → length behind ≤ 65536

-- ---- where reading stopped

-- these are the entries of the rows whose newlines were taken, behind that of the header, and no rule is broken in what
-- was taken: whatever follows, a refusal of a row begins behind it
pub record HasRows (ports : List (List ℕ)) (taken : List ℕ) (entries : List Entry) : Type 0 where
  pub lines : List ℕ
  pub begun : List ℕ
  pub split : taken ≡ (lines ++ 10 ∷ []) ++ begun
  pub open_line : has_newline begun ≡ false
  pub read : trace ports (lines ++ 10 ∷ []) ≡ Traced (record { entries = entries; ending = End })
  pub unbroken : (more : List ℕ) (all : Rows) (r : Refusal) → trace ports (taken ++ more) ≡ Traced all
      → all.ending ≡ Refused r → length taken ≤ r.span.start

-- what is written where so much was taken: nothing as long as the header's newline isn't among it, and no rule is
-- broken; then `rows` says it
pub data Stops (rows : List ℕ → List ℕ → Type 0) : List ℕ → List ℕ → Type 0 where
  InHeader : {taken : List ℕ} → has_newline taken ≡ false → length taken ≤ 67108864 → Stops rows taken []
  InRows : {taken lines : List ℕ} → rows taken lines → Stops rows taken lines

-- the line of row 0 and those of the rows whose newlines were taken
pub record NetRows (net : Circuit) (taken lines : List ℕ) : Type 0 where
  pub entries : List Entry
  pub has : HasRows net.inputs taken entries
  pub rows : ℕ → Row
  pub run : IsZeroRun net entries rows
  pub lines_are : lines ≡ shown_rows net rows (length entries)
