-- One rule after another.
use Rattle.std.proofs.Common.{◌≡◌, ◌<◌, ◌+◌, ℕ, inl, inr, Option, Some, None, refl, sym, subst, ◌∙◌, arith}
use Rattle.std.specs.Prelude.{Result, Ok, Err, OnOk}
use Rattle.std.specs.Result.{IsErrAnd}
use Rattle.pbs_base.specs.declared.refusal.Span.{Span}
use Rattle.pbs_base.specs.declared.refusal.Refusal.{Refusal}
use Rattle.pbs_base.specs.declared.refusal.Subject.TheVariants as Subject
use Rattle.pbs_ast.specs.declared.syntax.Spec.{Spec}
use Rattle.pbs_names.specs.StarsAndScopes.{Rule9, Rule10}
use Rattle.pbs_check.specs.declared.fail.Check.{Check}
use Rattle.pbs_check.specs.declared.fail.Check.TheVariants as answers
use Rattle.pbs_check.specs.declared.uses.Tables.{Tables}
use Rattle.pbs_check.specs.Checked.{IsBroken, By5, By6, By7, By8, By9, By10, By11, By18, By19, IsUnbroken, IsFailure}
use Rattle.pbs_check.specs.Checked.{Checks}
use Rattle.pbs_check.specs.inner.Stages.{KeepsBelow, ChecksTo, refuse}
use Rattle.pbs_check.specs.Declaring.{Rule5, Rule11}
use Rattle.pbs_check.specs.Least.{IsLeast}
use Rattle.pbs_check.specs.Recursion.{Rule8}
use Rattle.pbs_check.specs.inner.Facts.{known_of}
use Rattle.pbs_check.specs.inner.Truth.{IsStuck, IsKnown, Settles}
use Rattle.pbs_check.specs.Using.{Rule6, Rule7, Rule18, Rule19}
use Rattle.pbs_check.proofs.KnownLemmas.{every_known}
use Rattle.pbs_check.proofs.LeastLemmas.{least_same, below_cases}
use Rattle.pbs_check.proofs.RecursionLemmas.{are_first, is_known}

of_5 : {spec : Spec} {s : Span} → IsBroken spec 5 s → Rule5 spec s
of_5 (By5 r) = r

of_6 : {spec : Spec} {s : Span} → IsBroken spec 6 s → Rule6 spec s
of_6 (By6 r) = r

of_7 : {spec : Spec} {s : Span} → IsBroken spec 7 s → Rule7 spec s
of_7 (By7 r) = r

of_8 : {spec : Spec} {s : Span} → IsBroken spec 8 s → Rule8 spec s
of_8 (By8 r) = r

of_9 : {spec : Spec} {s : Span} → IsBroken spec 9 s → Rule9 spec s
of_9 (By9 r) = r

of_10 : {spec : Spec} {s : Span} → IsBroken spec 10 s → Rule10 spec s
of_10 (By10 r) = r

of_11 : {spec : Spec} {s : Span} → IsBroken spec 11 s → Rule11 spec s
of_11 (By11 r) = r

of_18 : {spec : Spec} {s : Span} → IsBroken spec 18 s → Rule18 spec s
of_18 (By18 r) = r

of_19 : {spec : Spec} {s : Span} → IsBroken spec 19 s → Rule19 spec s
of_19 (By19 r) = r

pub least_5 : (spec : Spec) (o : Option Span) → IsLeast (Rule5 spec) o → IsLeast (IsBroken spec 5) o
least_5 spec o = least_same (Rule5 spec) (IsBroken spec 5) o (λ s r. By5 r) (λ s b. of_5 b)

pub least_6 : (spec : Spec) (o : Option Span) → IsLeast (Rule6 spec) o → IsLeast (IsBroken spec 6) o
least_6 spec o = least_same (Rule6 spec) (IsBroken spec 6) o (λ s r. By6 r) (λ s b. of_6 b)

pub least_7 : (spec : Spec) (o : Option Span) → IsLeast (Rule7 spec) o → IsLeast (IsBroken spec 7) o
least_7 spec o = least_same (Rule7 spec) (IsBroken spec 7) o (λ s r. By7 r) (λ s b. of_7 b)

pub least_8 : (spec : Spec) (o : Option Span) → IsLeast (Rule8 spec) o → IsLeast (IsBroken spec 8) o
least_8 spec o = least_same (Rule8 spec) (IsBroken spec 8) o (λ s r. By8 r) (λ s b. of_8 b)

pub least_9 : (spec : Spec) (o : Option Span) → IsLeast (Rule9 spec) o → IsLeast (IsBroken spec 9) o
least_9 spec o = least_same (Rule9 spec) (IsBroken spec 9) o (λ s r. By9 r) (λ s b. of_9 b)

pub least_10 : (spec : Spec) (o : Option Span) → IsLeast (Rule10 spec) o → IsLeast (IsBroken spec 10) o
least_10 spec o = least_same (Rule10 spec) (IsBroken spec 10) o (λ s r. By10 r) (λ s b. of_10 b)

pub least_11 : (spec : Spec) (o : Option Span) → IsLeast (Rule11 spec) o → IsLeast (IsBroken spec 11) o
least_11 spec o = least_same (Rule11 spec) (IsBroken spec 11) o (λ s r. By11 r) (λ s b. of_11 b)

pub least_18 : (spec : Spec) (o : Option Span) → IsLeast (Rule18 spec) o → IsLeast (IsBroken spec 18) o
least_18 spec o = least_same (Rule18 spec) (IsBroken spec 18) o (λ s r. By18 r) (λ s b. of_18 b)

pub least_19 : (spec : Spec) (o : Option Span) → IsLeast (Rule19 spec) o → IsLeast (IsBroken spec 19) o
least_19 spec o = least_same (Rule19 spec) (IsBroken spec 19) o (λ s r. By19 r) (λ s b. of_19 b)

-- ---- one rule more
pub keeps_5 : (spec : Spec) → KeepsBelow spec 5
keeps_5 spec = record { kept = λ rule span few broken. never few broken }
  where
    never : {rule : ℕ} {span : Span} → rule < 5 → IsBroken spec rule span → ⊥
    never few (By5 r) = omega (arith, few)
    never few (By6 r) = omega (arith, few)
    never few (By7 r) = omega (arith, few)
    never few (By8 r) = omega (arith, few)
    never few (By9 r) = omega (arith, few)
    never few (By10 r) = omega (arith, few)
    never few (By11 r) = omega (arith, few)
    never few (By18 r) = omega (arith, few)
    never few (By19 r) = omega (arith, few)

keeps_next : (spec : Spec) (n : ℕ) → KeepsBelow spec n → ((s : Span) → IsBroken spec n s → ⊥) → KeepsBelow spec (n + 1)
keeps_next spec n keeps none = record {
  kept = λ rule span few broken. elim (below_cases rule n few) [
    | inl below ↦ keeps.kept rule span below broken
    | inr same ↦ let P : ℕ → Type 0 = λ r. IsBroken spec r span in none span (subst P same broken)
  ];
}

-- between 11 and 18 there is none that is looked at
pub keeps_18 : (spec : Spec) → KeepsBelow spec 12 → KeepsBelow spec 18
keeps_18 spec keeps = record { kept = λ rule span few broken. never few broken }
  where
    never : {rule : ℕ} {span : Span} → rule < 18 → IsBroken spec rule span → ⊥
    never few (By5 {span = s} r) = keeps.kept 5 s (omega arith) (By5 r)
    never few (By6 {span = s} r) = keeps.kept 6 s (omega arith) (By6 r)
    never few (By7 {span = s} r) = keeps.kept 7 s (omega arith) (By7 r)
    never few (By8 {span = s} r) = keeps.kept 8 s (omega arith) (By8 r)
    never few (By9 {span = s} r) = keeps.kept 9 s (omega arith) (By9 r)
    never few (By10 {span = s} r) = keeps.kept 10 s (omega arith) (By10 r)
    never few (By11 {span = s} r) = keeps.kept 11 s (omega arith) (By11 r)
    never few (By18 r) = omega (arith, few)
    never few (By19 r) = omega (arith, few)

pub keeps_all : (spec : Spec) → KeepsBelow spec 20 → IsUnbroken spec
keeps_all spec keeps = record { unbroken = λ rule span broken. never broken }
  where
    never : {rule : ℕ} {span : Span} → IsBroken spec rule span → ⊥
    never (By5 {span = s} r) = keeps.kept 5 s (omega arith) (By5 r)
    never (By6 {span = s} r) = keeps.kept 6 s (omega arith) (By6 r)
    never (By7 {span = s} r) = keeps.kept 7 s (omega arith) (By7 r)
    never (By8 {span = s} r) = keeps.kept 8 s (omega arith) (By8 r)
    never (By9 {span = s} r) = keeps.kept 9 s (omega arith) (By9 r)
    never (By10 {span = s} r) = keeps.kept 10 s (omega arith) (By10 r)
    never (By11 {span = s} r) = keeps.kept 11 s (omega arith) (By11 r)
    never (By18 {span = s} r) = keeps.kept 18 s (omega arith) (By18 r)
    never (By19 {span = s} r) = keeps.kept 19 s (omega arith) (By19 r)

-- what a rule answers, where those below are kept
pub step_ok : (spec : Spec) (n : ℕ) (o : Option Span) (r : Result (Unit {0}) Check) (u : Unit {0}) → KeepsBelow spec n
    → IsLeast (IsBroken spec n) o → r ≡ refuse n o → r ≡ Ok u → KeepsBelow spec (n + 1)
step_ok spec n None r u keeps least is ok = keeps_next spec n keeps least
step_ok spec n (Some s) r u keeps least is ok = let clash : refuse n (Some s) ≡ Ok u = sym is ∙ ok in cc

abbrev refusal : ℕ → Span → Refusal
refusal n s = record { subject = Subject.Spec; rule = n; span = s }

same_err : (a b : Check) → ◌≡◌ {A = Result (Unit {0}) Check} (Err a) (Err b) → a ≡ b
same_err a b h = cc

first_at : (spec : Spec) (n : ℕ) (s : Span) → KeepsBelow spec n → IsLeast (IsBroken spec n) (Some s) → (e : Check)
    → refuse n (Some s) ≡ Err e → IsFailure spec e
first_at spec n s keeps least e is =
    let P : Check → Type 0 = IsFailure spec in
    subst P (same_err (answers.Refused (refusal n s)) e is) (record
    { subject = refl; broken = least.0; first = keeps.kept; least = least.1 })

pub step_err : (spec : Spec) (n : ℕ) (o : Option Span) (r : Result (Unit {0}) Check) (e : Check) → KeepsBelow spec n
    → IsLeast (IsBroken spec n) o → r ≡ refuse n o → r ≡ Err e → IsFailure spec e
step_err spec n None r e keeps least is err = let clash : Ok tt ≡ Err e = sym is ∙ err in cc
step_err spec n (Some s) r e keeps least is err = first_at spec n s keeps least e (sym is ∙ err)

-- the failure is passed on
pub failed_to : {X : Type 0} (spec : Spec) (n : ℕ) (r : Result X Check) (e : Check) → IsErrAnd r (λ x. x ≡ e)
    → IsFailure spec e → ChecksTo spec n r
failed_to spec n (Ok x) e is failure = absurd is
failed_to spec n (Err x) e is failure = let P : Check → Type 0 = IsFailure spec in subst P (sym is) failure

pub failed : (spec : Spec) (r : Result (Unit {0}) Check) (e : Check) → IsErrAnd r (λ x. x ≡ e) → IsFailure spec e
    → Checks spec r
failed spec (Ok x) e is failure = absurd is
failed spec (Err x) e is failure = let P : Check → Type 0 = IsFailure spec in subst P (sym is) failure

pub step_to : (spec : Spec) (n : ℕ) (o : Option Span) (r : Result (Unit {0}) Check) → KeepsBelow spec n
    → IsLeast (IsBroken spec n) o → r ≡ refuse n o → ChecksTo spec (n + 1) r
step_to spec n o (Ok u) keeps least is = step_ok spec n o (Ok u) u keeps least is refl
step_to spec n o (Err e) keeps least is = step_err spec n o (Err e) e keeps least is refl

pub step_last : (spec : Spec) (o : Option Span) (r : Result (Unit {0}) Check) → KeepsBelow spec 19
    → IsLeast (IsBroken spec 19) o → r ≡ refuse 19 o → Checks spec r
step_last spec o (Ok u) keeps least is = keeps_all spec (step_ok spec 19 o (Ok u) u keeps least is refl)
step_last spec o (Err e) keeps least is = step_err spec 19 o (Err e) e keeps least is refl

-- ---- what rule 8 leaves is known
pub none_5 : (spec : Spec) → KeepsBelow spec 8 → (s : Span) → Rule5 spec s → ⊥
none_5 spec keeps s r = keeps.kept 5 s (omega arith) (By5 r)

pub known_after : (spec : Spec) (tables : Tables) (o : Option Span) (r : Result (Unit {0}) Check) → KeepsBelow spec 8
    → IsLeast (Rule8 spec) o → r ≡ refuse 8 o
    → Settles spec.prods (known_of tables.known) → IsStuck spec.prods (known_of tables.known)
    → OnOk r (IsKnown spec tables)
known_after spec tables None (Ok u) keeps least is settles stuck =
    is_known spec tables settles (every_known spec (known_of tables.known) (are_first spec (none_5 spec keeps)) stuck
    (λ s r. keeps.kept 6 s (omega arith) (By6 r)) (λ s r. keeps.kept 7 s (omega arith) (By7 r)) least)
known_after spec tables (Some s) (Ok u) keeps least is settles stuck = cc
known_after spec tables o (Err e) keeps least is settles stuck = tt
