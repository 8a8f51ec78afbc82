-- The migration of a text.
use Rattle.std.proofs.Common.{◌≡◌, ◌∙◌, ℕ, ◌≤◌, ◌<◌, List, length, ◌++◌, Err, refl, sym, ap, subst, arith}
use Rattle.pbs_base.specs.declared.refusal.Refusal.{Refusal}
use Rattle.pbs_ast.specs.Bare.{bare}
use Rattle.pbs_ast.specs.declared.syntax.Spec.{Spec}
use Rattle.pbs_print.specs.Canonical.{canonical}
use Rattle.pbs_print.specs.Written.{of_version_2}
use Rattle.pbs_print.proofs.Plain.{canonical-bare}
use Rattle.pbs_engine.specs.declared.fail.EngineFail.{EngineFail}
use Rattle.pbs_engine.specs.declared.fail.EngineFail.TheVariants as engine
use Rattle.pbs_engine.specs.declared.front.Accepted.{Accepted}
use Rattle.pbs_engine.specs.inner.AcceptedAs.{IsAcceptedAs, Accepts}
use Rattle.pbs_engine.specs.Accepted.{Breaks, IsAccepted}
use Rattle.pbs_engine.specs.Migrated.{BreaksMigration, OnChecking, By20, IsMigrationOf, Migrates, whole_span}

-- what is printed is the migration, wherever the boxes of the specification lie
pub migration_of : (text migrated : List ℕ) (found : Accepted) → IsAcceptedAs text found
    → migrated ≡ canonical (of_version_2 found.spec) → IsMigrationOf text migrated
migration_of text migrated found is printed = record {
  spec = bare found.spec;
  accepted = is.accepted;
  written = printed ∙ sym (canonical-bare (of_version_2 found.spec));
}

pub is_short : (text migrated : List ℕ) → IsMigrationOf text migrated → length text ≤ 1048576
is_short text migrated is = is.accepted.read.short

pub not_migrated : (text before : List ℕ) (fail : EngineFail) → Accepts text (Err fail)
    → Migrates text before before (Err fail)
not_migrated text before (engine.Refused r) is = (OnChecking is, refl)
not_migrated text before engine.Memory is = refl

-- ---- one migration

abbrev pub OneSpec : Type 0
OneSpec = (text : List ℕ) (a b : Spec) → IsAccepted text a → IsAccepted text b → a ≡ b

abbrev pub OneRefusal : Type 0
OneRefusal = (text : List ℕ) (r s : Refusal) → Breaks text r → Breaks text s → r ≡ s

abbrev pub NeverBoth : Type 0
NeverBoth = (text : List ℕ) (a : Spec) (r : Refusal) → IsAccepted text a → Breaks text r → ⊥

pub one_migration : OneSpec → (text a b : List ℕ) → IsMigrationOf text a → IsMigrationOf text b → a ≡ b
one_migration one text a b p q =
    p.written
    ∙ (ap (λ s. canonical (of_version_2 s)) (one text p.spec q.spec p.accepted q.accepted) ∙ sym q.written)

pub migration_apart : OneSpec → NeverBoth → (text a : List ℕ) (r : Refusal) → IsMigrationOf text a
    → length a ≤ 1048576 → BreaksMigration text r → ⊥
migration_apart one never text a r p few (OnChecking broken) = never text p.spec r p.accepted broken
migration_apart one never text a r p few (By20 {migrated} q long) =
    let over = subst (λ t. 1048576 < length t) (one_migration one text migrated a q p) long in omega (arith, few, over)

pub one_refusal : OneRefusal → NeverBoth → (text : List ℕ) (r s : Refusal) → BreaksMigration text r
    → BreaksMigration text s → r ≡ s
one_refusal one never text r s (OnChecking p) (OnChecking q) = one text r s p q
one_refusal one never text r s (OnChecking p) (By20 q long) = absurd (never text q.spec r q.accepted p)
one_refusal one never text r s (By20 p long) (OnChecking q) = absurd (never text p.spec s p.accepted q)
one_refusal one never text r s (By20 p long) (By20 q long_too) = refl
