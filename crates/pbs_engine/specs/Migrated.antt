-- What `migrate` answers.
use Rattle.std.specs.Prelude.{◌≡◌, ◌≤◌, ◌<◌, ℕ, List, ◌++◌, length, Result, Ok, Err}
use Rattle.pbs_base.specs.declared.refusal.Span.{Span}
use Rattle.pbs_base.specs.declared.refusal.Refusal.{Refusal}
use Rattle.pbs_ast.specs.declared.syntax.Spec.{Spec}
use Rattle.pbs_text.specs.Refusals.{refusal}
use Rattle.pbs_print.specs.Canonical.{canonical}
use Rattle.pbs_print.specs.Written.{of_version_2}
use Rattle.pbs_engine.specs.declared.fail.EngineFail.{EngineFail}
use Rattle.pbs_engine.specs.declared.fail.EngineFail.TheVariants as fails
use Rattle.pbs_engine.specs.Accepted.{Breaks, IsAccepted}

-- the second text is the canonical text, with version 2, of the specification that the first stands for
pub record IsMigrationOf (text migrated : List ℕ) : Type 0 where
  pub spec : Spec
  pub accepted : IsAccepted text spec
  pub written : migrated ≡ canonical (of_version_2 spec)

-- the whole of a text
abbrev pub whole_span : List ℕ → Span
whole_span text = record { start = 0; end = length text }

-- the first rule by which `migrate` refuses the text: those of `check` come first, and then rule 20, that the canonical
-- text has more than 1,048,576 bytes
pub data BreaksMigration (text : List ℕ) : Refusal → Type 0 where
  OnChecking : {r : Refusal} → Breaks text r → BreaksMigration text r
  By20 : {migrated : List ℕ} → IsMigrationOf text migrated → 1048576 < length migrated
      → BreaksMigration text (refusal 20 (whole_span text))

-- what was appended is the canonical text with version 2; nothing was where the text is refused, or no memory was found
abbrev pub Migrates : List ℕ → List ℕ → List ℕ → Result (Unit {0}) EngineFail → Type 0
Migrates text before now (Ok done) =
    (migrated : List ℕ) × IsMigrationOf text migrated × (length migrated ≤ 1048576) × (now ≡ before ++ migrated)
Migrates text before now (Err (fails.Refused r)) = BreaksMigration text r × (now ≡ before)
Migrates text before now (Err fails.Memory) = now ≡ before
