-- The lines of a text, and the line that a failure names.
use Rattle.std.specs.Prelude.{ℕ, List, ◌+◌, ◌≤◌, ◌==◌}
use Rattle.std.specs.List.{count_by}
use Rattle.row_files.specs.declared.fail.RowsFail.{RowsFail}
use Rattle.row_files.specs.declared.fail.RowsFail.TheVariants.{Malformed, Memory}

-- one more than the newlines
abbrev pub line_count : List ℕ → ℕ
line_count text = count_by (λ b. b == 10) text + 1

-- a malformed line is one of the first so many
abbrev pub NamesLineOf : ℕ → RowsFail → Type 0
NamesLineOf count (Malformed line) = (1 ≤ line) × (line ≤ count)
NamesLineOf count Memory = Unit {0}
