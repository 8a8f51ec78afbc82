-- What is said of a row.
use Rattle.std.specs.Prelude.{Bool, true, false, ◌≡◌}
use Rattle.row_files.specs.declared.row.Answer.{Answer}
use Rattle.row_files.specs.declared.verdict.Found.{Found}
use Rattle.row_files.specs.declared.verdict.Found.TheVariants.{Expected, Other, NotMade}
use Rattle.row_files.specs.declared.verdict.Verdict.{Verdict}

-- another answer than the expected one was found
abbrev pub is_other : Found → Bool
is_other Expected = false
is_other (Other answer) = true
is_other (NotMade answer) = true

abbrev pub differs : Verdict → Bool
differs verdict = is_other verdict.found

-- the same status and the same bytes
abbrev pub Agrees : Answer → Answer → Type 0
Agrees expected answer = (answer.status ≡ expected.status) × (answer.out.items ≡ expected.out.items)

-- the answer that was found in place of the expected one
abbrev pub Shows : Answer → Found → Type 0
Shows answer Expected = Unit {0}
Shows answer (Other found) = found ≡ answer
Shows answer (NotMade found) = found ≡ answer
