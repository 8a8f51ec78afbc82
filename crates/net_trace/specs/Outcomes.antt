-- What a netlist gives on a trace.
use Rattle.std.specs.Prelude.{◌≡◌, ℕ, suc, List, [], ◌++◌, length, Option, Some, None}
use Rattle.pbs_base.specs.declared.refusal.Refusal.{Refusal}
use Rattle.net_core.specs.Rows.{Row}
use Rattle.net_core.specs.Circuits.{Circuit, output_names}
use Rattle.net_core.specs.Runs.{output_value}
use Rattle.net_eval.specs.Simulated.{IsZeroRun}
use Rattle.trace_text.specs.Reports.{end_line, rows_text}
use Rattle.trace_text.specs.Traces.{Ending, End, Refused}
use Rattle.trace_text.specs.Traces.{Rows}
use Rattle.trace_text.specs.Headers.{NoHeader, Traced, trace}

-- the lines that are written, and the refusal in which they end, if they do
pub record Outcome : Type 0 where
  pub lines : List ℕ
  pub refusal : Option Refusal

abbrev pub refused : Refusal → Outcome
refused r = record { lines = []; refusal = Some r }

-- these lines, and behind them the number of entries where the trace ends there
abbrev pub ended : List ℕ → ℕ → Ending → Outcome
ended lines count End = record { lines = lines ++ end_line count; refusal = None }
ended lines count (Refused r) = record { lines = lines; refusal = Some r }

-- the line of row 0 and one for each of so many entries
abbrev pub shown_rows : Circuit → (ℕ → Row) → ℕ → List ℕ
shown_rows net rows count = rows_text (output_names net) (λ k n. output_value net (rows k) n) 0 (suc count)

-- what a netlist gives on the text of a trace: the report of its run in which the registers before row 0 are 0, and the
-- inputs in row 0 and in rows of resets
pub data NetGives (net : Circuit) (text : List ℕ) : Outcome → Type 0 where
  OnHeader : {r : Refusal} → trace net.inputs text ≡ NoHeader r → NetGives net text (refused r)
  OnRows : (read : Rows) → trace net.inputs text ≡ Traced read → (rows : ℕ → Row) → IsZeroRun net read.entries rows
      → NetGives net text (ended (shown_rows net rows (length read.entries)) (length read.entries) read.ending)
