-- The rules that are looked at, in their order, and what `check_spec` answers.
use Rattle.std.specs.Prelude.{◌≡◌, ◌<◌, ℕ, IsTrue, Result, Ok, Err}
use Rattle.pbs_base.specs.declared.refusal.Span.{Span}
use Rattle.pbs_base.specs.declared.refusal.Refusal.{Refusal}
use Rattle.pbs_base.specs.declared.refusal.Subject.TheVariants as Subject
use Rattle.pbs_ast.specs.declared.syntax.Spec.{Spec}
use Rattle.pbs_names.specs.StarsAndScopes.{Rule9, Rule10}
use Rattle.pbs_check.specs.declared.fail.Check.{Check}
use Rattle.pbs_check.specs.declared.fail.Check.TheVariants as answers
use Rattle.pbs_check.specs.Least.{span_le}
use Rattle.pbs_check.specs.Declaring.{Rule5, Rule11}
use Rattle.pbs_check.specs.Using.{Rule6, Rule7, Rule18, Rule19}
use Rattle.pbs_check.specs.Recursion.{Rule8}

-- the rule is broken at the span
pub data IsBroken (spec : Spec) : ℕ → Span → Type 0 where
  By5 : {span : Span} → Rule5 spec span → IsBroken spec 5 span
  By6 : {span : Span} → Rule6 spec span → IsBroken spec 6 span
  By7 : {span : Span} → Rule7 spec span → IsBroken spec 7 span
  By8 : {span : Span} → Rule8 spec span → IsBroken spec 8 span
  By9 : {span : Span} → Rule9 spec span → IsBroken spec 9 span
  By10 : {span : Span} → Rule10 spec span → IsBroken spec 10 span
  By11 : {span : Span} → Rule11 spec span → IsBroken spec 11 span
  By18 : {span : Span} → Rule18 spec span → IsBroken spec 18 span
  By19 : {span : Span} → Rule19 spec span → IsBroken spec 19 span

-- the first rule that is broken, with the least span at which it is
pub record IsFirst (spec : Spec) (refusal : Refusal) : Type 0 where
  pub subject : refusal.subject ≡ Subject.Spec
  pub broken : IsBroken spec refusal.rule refusal.span
  pub first : (rule : ℕ) (span : Span) → rule < refusal.rule → IsBroken spec rule span → ⊥
  pub least : (span : Span) → IsBroken spec refusal.rule span → IsTrue (span_le refusal.span span)

-- none of these rules is broken
pub record IsUnbroken (spec : Spec) : Type 0 where
  pub unbroken : (rule : ℕ) (span : Span) → IsBroken spec rule span → ⊥

-- a failure is the first refusal, or want of memory
abbrev pub IsFailure : Spec → Check → Type 0
IsFailure spec (answers.Refused refusal) = IsFirst spec refusal
IsFailure spec answers.Memory = Unit {0}

abbrev pub Checks : Spec → Result (Unit {0}) Check → Type 0
Checks spec (Ok done) = IsUnbroken spec
Checks spec (Err e) = IsFailure spec e
