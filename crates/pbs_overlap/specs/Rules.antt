-- The rules that are looked at in trees with scopes.
use Rattle.std.specs.Prelude.{◌≡◌, ℕ, ◌<◌, ◌≤◌, false, length, Result, Ok, Err, Some}
use Rattle.pbs_base.specs.declared.refusal.Span.{Span}
use Rattle.pbs_base.specs.declared.refusal.Refusal.{Refusal}
use Rattle.pbs_base.specs.declared.refusal.Subject.TheVariants as subject
use Rattle.pbs_ast.specs.Trees.{Tree, has_no_scope}
use Rattle.pbs_edges.specs.Found.{HasFewTerms, HasManyTerms}
use Rattle.pbs_edges.specs.Listed.{follow_edges}
use Rattle.pbs_edges.specs.Walks.{BreaksNoScope, IsRefused}
use Rattle.pbs_overlap.specs.Ranges.{scope_span}
use Rattle.pbs_overlap.specs.declared.fail.TreeFail.{TreeFail}
use Rattle.pbs_overlap.specs.declared.fail.TreeFail.TheVariants as fails

abbrev pub refused : ℕ → Span → Refusal
refused rule span = record { subject = subject.Spec; rule = rule; span = span }

-- scope s breaks the overlap rule, and no lower one does
pub record IsLowestRefused (main : Tree) (s : ℕ) : Type 0 where
  pub broken : IsRefused main s
  pub lowest : (t : ℕ) → t < s → IsRefused main t → ⊥

-- the first of the rules 14, 15 and 16, in this order, that a tree with a scope breaks: 14 and 15 at the span of main's
-- expression, 16 at the lowest scope that breaks it
pub data TreeRefuses (main : Tree) (span : Span) : Refusal → Type 0 where
  By14 : has_no_scope main ≡ false → 16384 < length (follow_edges main) → TreeRefuses main span (refused 14 span)
  By15 : has_no_scope main ≡ false → length (follow_edges main) ≤ 16384 → HasManyTerms main 256
      → TreeRefuses main span (refused 15 span)
  By16 : (s : ℕ) (place : Span) → length (follow_edges main) ≤ 16384 → HasFewTerms main 256 → IsLowestRefused main s
      → scope_span s main ≡ Some place → TreeRefuses main span (refused 16 place)

-- the tree breaks none of these rules
pub record IsClear (main : Tree) : Type 0 where
  pub few_edges : has_no_scope main ≡ false → length (follow_edges main) ≤ 16384
  pub few_terms : has_no_scope main ≡ false → HasFewTerms main 256
  pub scopes : BreaksNoScope main

-- what `check_tree` answers
abbrev pub ChecksTree : Tree → Span → Result (Unit {0}) TreeFail → Type 0
ChecksTree main span (Ok done) = IsClear main
ChecksTree main span (Err (fails.Refused r)) = TreeRefuses main span r
ChecksTree main span (Err fails.Memory) = Unit {0}
