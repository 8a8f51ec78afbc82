-- A reader goes over the bytes of a piece.
use Rattle.std.proofs.Common.{◌≡◌, ℕ, ◌+◌, List, ◌++◌}
use Rattle.std.proofs.Common.{length, drop}
use Rattle.trace_text.specs.Traces.{first_line}
use Rattle.trace_text.specs.States.{ReaderState, has_newline}
use Rattle.trace_text.specs.States.{rows_from}
use Rattle.trace_text.specs.declared.answers.Phase.TheVariants as phase

-- the first n bytes of the piece were taken, none of them a newline
pub record Passed (before now : ReaderState) (piece : List ℕ) (n : ℕ) : Type 0 where
  pub gives : (rest : List ℕ) → rows_from before (piece ++ rest) ≡ rows_from now (drop n piece ++ rest)
  pub ports : now.ports ≡ before.ports
  pub order : now.order ≡ before.order
  pub phase : now.phase ≡ phase.Rows
  pub used : now.used ≡ before.used + n
  pub line : length (first_line piece) ≡ n + length (first_line (drop n piece))
  pub open_line : has_newline piece ≡ has_newline (drop n piece)
