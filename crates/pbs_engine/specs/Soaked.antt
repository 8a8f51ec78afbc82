-- What `soak` answers.
use Rattle.std.specs.Prelude.{◌≡◌, ℕ, suc, ◌*◌, List, ◌++◌, Result, Ok, Err}
use Rattle.pbs_ast.specs.declared.syntax.Spec.{Spec}
use Rattle.soak_run.specs.declared.counting.Counts.{Counts}
use Rattle.soak_run.specs.Soaks.{entries, row_count, soak_line, spec_text}
use Rattle.pbs_engine.specs.declared.fail.EngineFail.{EngineFail}
use Rattle.pbs_engine.specs.declared.fail.EngineFail.TheVariants as fails
use Rattle.pbs_engine.specs.Accepted.{Breaks, IsAccepted}
use Rattle.pbs_engine.specs.Outcomes.{is_due}

-- in how many rows of the run for n the actions `hit`, `pass` and `lost`, the first three, fire
abbrev pub soak_counts : Spec → ℕ → Counts
soak_counts spec n = record {
  hit = row_count (λ k. is_due spec (entries n (10 * n)) k 0) (suc (10 * n));
  pass = row_count (λ k. is_due spec (entries n (10 * n)) k 1) (suc (10 * n));
  lost = row_count (λ k. is_due spec (entries n (10 * n)) k 2) (suc (10 * n));
}

-- what was appended is the line of the specification for n; nothing was where it is refused, or no memory was found
abbrev pub Soaks : ℕ → List ℕ → List ℕ → Result (Unit {0}) EngineFail → Type 0
Soaks n before now (Ok done) =
    (spec : Spec) × IsAccepted (spec_text n) spec × (now ≡ before ++ soak_line n (soak_counts spec n))
Soaks n before now (Err (fails.Refused r)) = Breaks (spec_text n) r × (now ≡ before)
Soaks n before now (Err fails.Memory) = now ≡ before
