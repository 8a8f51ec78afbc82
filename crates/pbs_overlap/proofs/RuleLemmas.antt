-- A tree has at most one refusal, and what the checks answer.
use Rattle.std.proofs.Common.{◌≡◌, ℕ, ◌<◌, ◌≤◌, true, false, inl, inr, Some, arith, refl, sym, ◌∙◌, ap, length}
use Rattle.std.proofs.lemmas.Bool.{cases_lt, both_ways}
use Rattle.std.proofs.lemmas.Option.{same_Some}
use Rattle.pbs_base.specs.declared.refusal.Span.{Span}
use Rattle.pbs_base.specs.declared.refusal.Refusal.{Refusal}
use Rattle.pbs_ast.specs.Trees.{Tree, has_no_scope}
use Rattle.pbs_edges.specs.Listed.{follow_edges}
use Rattle.pbs_edges.specs.Found.{AreEdges}
use Rattle.pbs_edges.specs.declared.edge.Edges.{Edges}
use Rattle.pbs_edges.specs.Walks.{BreaksNoScope, IsRefused}
use Rattle.pbs_overlap.specs.Ranges.{scope_span}
use Rattle.pbs_overlap.specs.Rules.{TreeRefuses, By14, By15, By16, IsClear, IsLowestRefused, refused}
use Rattle.pbs_overlap.proofs.Pigeonhole.{not_few_and_many}

one_lowest : (main : Tree) (s t : ℕ) → IsLowestRefused main s → IsLowestRefused main t → s ≡ t
one_lowest main s t a b =
    elim (cases_lt s t) [
      | inl below ↦ absurd (b.lowest s below a.broken)
      | inr l ↦ elim (cases_lt t s) [ inl below ↦ absurd (a.lowest t below b.broken) | inr m ↦ omega arith ]
    ]

pub same_refusal : (main : Tree) (span : Span) (r s : Refusal) → TreeRefuses main span r → TreeRefuses main span s
    → r ≡ s
same_refusal main span r s (By14 a many) (By14 b other) = refl
same_refusal main span r s (By14 a many) (By15 b few terms) = absurd (omega arith)
same_refusal main span r s (By14 a many) (By16 t place few terms low is) = absurd (omega arith)
same_refusal main span r s (By15 a few terms) (By14 b many) = absurd (omega arith)
same_refusal main span r s (By15 a few terms) (By15 b other too) = refl
same_refusal main span r s (By15 a few many) (By16 t place other terms low is) =
    absurd (not_few_and_many main 256 terms many)
same_refusal main span r s (By16 t place few terms low is) (By14 b many) = absurd (omega arith)
same_refusal main span r s (By16 t place few terms low is) (By15 b other many) =
    absurd (not_few_and_many main 256 terms many)
same_refusal main span r s (By16 t place few terms low is) (By16 u other less terms_too first also) =
    ap (refused 16) (same_Some place other
    (sym is ∙ (ap (λ n. scope_span n main) (one_lowest main t u low first) ∙ also)))

pub never_clear : (main : Tree) (span : Span) (r : Refusal) → TreeRefuses main span r → IsClear main → ⊥
never_clear main span r (By14 scope many) clear = let few = clear.few_edges scope in omega arith
never_clear main span r (By15 scope few many) clear = not_few_and_many main 256 (clear.few_terms scope) many
never_clear main span r (By16 s place few terms low is) clear = clear.scopes s low.broken

-- without a scope none of the rules is looked at
pub clear_without : (main : Tree) → has_no_scope main ≡ true → BreaksNoScope main → IsClear main
clear_without main none scopes = record {
  few_edges = λ scope. absurd (both_ways (has_no_scope main) scope none);
  few_terms = λ scope. absurd (both_ways (has_no_scope main) scope none);
  scopes = scopes;
}

pub clear_with : (main : Tree) (edges : Edges) → AreEdges main edges → BreaksNoScope main → IsClear main
clear_with main edges are none = record {
  few_edges = λ scope. let few = are.few in let count = are.count in omega arith;
  few_terms = λ scope. are.few_terms;
  scopes = none;
}

pub scope_refuses : (main : Tree) (span place : Span) (edges : Edges) (s : ℕ) → AreEdges main edges → IsRefused main s
    → ((t : ℕ) → t < s → IsRefused main t → ⊥) → scope_span s main ≡ Some place
    → TreeRefuses main span (refused 16 place)
scope_refuses main span place edges s are broken lowest is =
    By16 s place (let few = are.few in let count = are.count in omega arith) are.few_terms
    (record { broken = broken; lowest = lowest }) is
