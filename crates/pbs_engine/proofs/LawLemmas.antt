-- A text is accepted or refused in one way.
use Rattle.std.proofs.Common.{◌≡◌, ◌∙◌, ℕ, List, Option, Some, None, Result, Ok, Err, sym, ap, subst}
use Rattle.pbs_base.specs.declared.refusal.Span.{Span}
use Rattle.pbs_base.specs.declared.refusal.Refusal.{Refusal}
use Rattle.pbs_ast.specs.Trees.{Tree}
use Rattle.pbs_ast.specs.declared.syntax.Spec.{Spec}
use Rattle.pbs_text.specs.Answers.{Answers, StandsFor}
use Rattle.pbs_check.specs.Checked.{IsFirst, IsUnbroken}
use Rattle.pbs_expand.specs.Expanded.{expanded, refusal}
use Rattle.pbs_overlap.specs.Rules.{IsClear, TreeRefuses}
use Rattle.pbs_engine.specs.Accepted.{Breaks, OnReading, OnSpec, SpecBreaks, OnRules, OnExpansion, OnTree, IsAccepted}

-- the laws of the reader, of the checks and of the rules of scopes
pub record OneEach : Type 0 where
  pub answer : (bytes : List ℕ) (a b : Result Spec Refusal) → Answers bytes a → Answers bytes b → a ≡ b
  pub same : (spec : Spec) (r s : Refusal) → IsFirst spec r → IsFirst spec s → r ≡ s
  pub never : (spec : Spec) (r : Refusal) → IsFirst spec r → IsUnbroken spec → ⊥
  pub tree_same : (main : Tree) (span : Span) (r s : Refusal) → TreeRefuses main span r → TreeRefuses main span s
      → r ≡ s
  pub tree_never : (main : Tree) (span : Span) (r : Refusal) → TreeRefuses main span r → IsClear main → ⊥

abbrev ok_of : Spec → Result Spec Refusal → Spec
ok_of other (Ok spec) = spec
ok_of other (Err r) = other

abbrev err_of : Refusal → Result Spec Refusal → Refusal
err_of other (Ok spec) = other
err_of other (Err r) = r

abbrev some_of : Refusal → Option Refusal → Refusal
some_of other (Some r) = r
some_of other None = other

some_none : (r : Refusal) (o : Option Refusal) → o ≡ Some r → o ≡ None → ⊥
some_none r o some none = let both : Some r ≡ None = sym some ∙ none in cc

abbrev is_ok : Result Spec Refusal → Type 0
is_ok (Ok spec) = Unit {0}
is_ok (Err r) = ⊥

one_spec : OneEach → (text : List ℕ) (a b : Spec) → StandsFor text a → StandsFor text b → a ≡ b
one_spec one text a b p q = ap (ok_of a) (one.answer text (Ok a) (Ok b) p q)

never_both : OneEach → (text : List ℕ) (a : Spec) (r : Refusal) → StandsFor text a → Answers text (Err r) → ⊥
never_both one text a r p q = subst is_ok (one.answer text (Ok a) (Err r) p q) tt

pub one_accepted : OneEach → (text : List ℕ) (a b : Spec) → IsAccepted text a → IsAccepted text b → a ≡ b
one_accepted one text a b p q = one_spec one text a b p.read q.read

-- ---- a specification

keeps_apart : OneEach → (spec : Spec) (r : Refusal) → SpecBreaks spec r → IsUnbroken spec → refusal spec ≡ None
    → IsClear (expanded spec) → ⊥
keeps_apart one spec r (OnRules first) unbroken within clear = one.never spec r first unbroken
keeps_apart one spec r (OnExpansion none over) unbroken within clear = some_none r (refusal spec) over within
keeps_apart one spec r (OnTree none kept tree) unbroken within clear =
    one.tree_never (expanded spec) spec.main.span r tree clear

one_rule : OneEach → (spec : Spec) (r s : Refusal) → SpecBreaks spec r → SpecBreaks spec s → r ≡ s
one_rule one spec r s (OnRules first) (OnRules other) = one.same spec r s first other
one_rule one spec r s (OnRules first) (OnExpansion none over) = absurd (one.never spec r first none)
one_rule one spec r s (OnRules first) (OnTree none kept tree) = absurd (one.never spec r first none)
one_rule one spec r s (OnExpansion none over) (OnRules first) = absurd (one.never spec s first none)
one_rule one spec r s (OnExpansion none over) (OnExpansion none_too other) = ap (some_of r) (sym over ∙ other)
one_rule one spec r s (OnExpansion none over) (OnTree none_too kept tree) =
    absurd (some_none r (refusal spec) over kept)
one_rule one spec r s (OnTree none kept tree) (OnRules first) = absurd (one.never spec s first none)
one_rule one spec r s (OnTree none kept tree) (OnExpansion none_too over) =
    absurd (some_none s (refusal spec) over kept)
one_rule one spec r s (OnTree none kept tree) (OnTree none_too kept_too other) =
    one.tree_same (expanded spec) spec.main.span r s tree other

-- ---- a text

pub accepted_apart : OneEach → (text : List ℕ) (a : Spec) (r : Refusal) → IsAccepted text a → Breaks text r → ⊥
accepted_apart one text a r p (OnReading q) = never_both one text a r p.read q
accepted_apart one text a r p (OnSpec spec read broken) =
    keeps_apart one a r (subst (λ x. SpecBreaks x r) (one_spec one text spec a read p.read) broken) p.unbroken p.within
    p.clear

pub one_broken : OneEach → (text : List ℕ) (r s : Refusal) → Breaks text r → Breaks text s → r ≡ s
one_broken one text r s (OnReading p) (OnReading q) = ap (err_of r) (one.answer text (Err r) (Err s) p q)
one_broken one text r s (OnReading p) (OnSpec spec read broken) = absurd (never_both one text spec r read p)
one_broken one text r s (OnSpec spec read broken) (OnReading q) = absurd (never_both one text spec s read q)
one_broken one text r s (OnSpec spec read broken) (OnSpec other read_other broken_too) =
    one_rule one other r s
    (subst (λ x. SpecBreaks x r) (one_spec one text spec other read read_other) broken) broken_too
