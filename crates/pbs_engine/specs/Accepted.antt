-- Which specifications are accepted, and the first rule that a text breaks.
use Rattle.std.specs.Prelude.{◌≡◌, ℕ, List, Some, None, Result, Ok, Err}
use Rattle.pbs_base.specs.declared.refusal.Refusal.{Refusal}
use Rattle.pbs_ast.specs.declared.syntax.Spec.{Spec}
use Rattle.pbs_text.specs.Answers.{StandsFor, IsRefusedBy}
use Rattle.pbs_check.specs.Checked.{IsFirst, IsUnbroken}
use Rattle.pbs_expand.specs.Expanded.{expanded, refusal}
use Rattle.pbs_overlap.specs.Rules.{IsClear, TreeRefuses}
use Rattle.pbs_engine.specs.declared.fail.EngineFail.{EngineFail}
use Rattle.pbs_engine.specs.declared.fail.EngineFail.TheVariants as fails

-- the first rule that a specification breaks, of the rules 5 to 11, 18, 19 and 12 to 16 in this order, and its place
pub data SpecBreaks (spec : Spec) : Refusal → Type 0 where
  OnRules : {r : Refusal} → IsFirst spec r → SpecBreaks spec r
  OnExpansion : {r : Refusal} → IsUnbroken spec → refusal spec ≡ Some r → SpecBreaks spec r
  OnTree : {r : Refusal} → IsUnbroken spec → refusal spec ≡ None → TreeRefuses (expanded spec) spec.main.span r
      → SpecBreaks spec r

-- the first rule that the text breaks, the rules 1 to 4 before those of the specification that it stands for
pub data Breaks (text : List ℕ) : Refusal → Type 0 where
  OnReading : {r : Refusal} → IsRefusedBy text r → Breaks text r
  OnSpec : (spec : Spec) {r : Refusal} → StandsFor text spec → SpecBreaks spec r → Breaks text r

-- the text stands for this specification, which breaks none of these rules; its tree is `expanded spec`
pub record IsAccepted (text : List ℕ) (spec : Spec) : Type 0 where
  pub read : StandsFor text spec
  pub unbroken : IsUnbroken spec
  pub within : refusal spec ≡ None
  pub clear : IsClear (expanded spec)

-- what `check` answers
abbrev pub Checks : List ℕ → Result (Unit {0}) EngineFail → Type 0
Checks text (Ok done) = (spec : Spec) × IsAccepted text spec
Checks text (Err (fails.Refused r)) = Breaks text r
Checks text (Err fails.Memory) = Unit {0}
