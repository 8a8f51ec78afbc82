-- The expansion of a specification with every box at one place.
use Rattle.std.proofs.Common.{◌≡◌, ℕ, zero, suc, Result, Ok, Err, refl, sym, ap, ap₂, ◌∙◌}
use Rattle.std.specs.Prelude.{◌↔◌}
use Rattle.pbs_ast.specs.declared.main_tree.Main.{Main}
use Rattle.pbs_ast.specs.declared.syntax.Spec.{Spec}
use Rattle.pbs_ast.specs.Bare.{bare}
use Rattle.pbs_expand.specs.Parts as nodes
use Rattle.pbs_expand.specs.Parts.{Part, Shape, Whole, shape}
use Rattle.pbs_expand.specs.Walks.{Walk, Beyond, Terminal, Name, Star, Hold, Pair, Scope, walk, walked}
use Rattle.pbs_expand.specs.Visits.{visits, first_over, numbered}
use Rattle.pbs_expand.specs.Wide.{first_too_wide}
use Rattle.pbs_expand.specs.Expanded.{Gives, expanded, refusal, main_walk, nothing_yet, first_refusal}
use Rattle.pbs_expand.specs.declared.fail.Expand.{Expand}
use Rattle.pbs_expand.specs.declared.fail.Expand.TheVariants as answers
use Rattle.pbs_expand.proofs.BareTerms.{written_bare}
use Rattle.pbs_expand.proofs.BareParts.{bare_part, bare_shape, shape_bare, span_bare}

-- the walk of a node, where those of its parts are so
walked_bare : (spec : Spec) (v w : Part → Walk) → ((p : Part) → v (bare_part p) ≡ w p) → (s : Shape)
    → walked (bare spec) v (bare_shape s) ≡ walked spec w s
walked_bare spec v w same (nodes.Empty span) = refl
walked_bare spec v w same (nodes.Terminal span t) = ap (Terminal span) (written_bare spec.inputs t)
walked_bare spec v w same (nodes.Action span name) = refl
walked_bare spec v w same (nodes.Name span body) = ap (Name span) (same body)
walked_bare spec v w same (nodes.Star span body) = ap (Star span) (same body)
walked_bare spec v w same (nodes.Hold span t body) = ap₂ (Hold span) (written_bare spec.inputs t) (same body)
walked_bare spec v w same (nodes.Pair span by first second) = ap₂ (Pair span by) (same first) (same second)
walked_bare spec v w same (nodes.Scope span body trap after) =
    ap₂ (λ x y. Scope span x y (v (bare_part after))) (same body) (same trap)
    ∙ ap (Scope span (w body) (w trap)) (same after)

walk_bare : (spec : Spec) (room : ℕ) (p : Part) → walk (bare spec) room (bare_part p) ≡ walk spec room p
unfolding walk
walk_bare spec zero p = ap Beyond (span_bare p)
walk_bare spec (suc room) p =
    ap (walked (bare spec) (walk (bare spec) room)) (shape_bare spec.prods p)
    ∙ walked_bare spec (walk (bare spec) room) (walk spec room) (walk_bare spec room) (shape spec.prods p)

main_bare : (spec : Spec) → main_walk (bare spec) ≡ main_walk spec
main_bare spec = walk_bare spec 256 (Whole spec.main)

pub same_tree : (spec : Spec) → expanded (bare spec) ≡ expanded spec
same_tree spec = ap (λ w. numbered w nothing_yet) (main_bare spec)

pub same_refusal : (spec : Spec) → refusal (bare spec) ≡ refusal spec
same_refusal spec =
    ap (λ w. first_refusal (first_over nothing_yet (visits w)) (first_too_wide (numbered w nothing_yet)))
    (main_bare spec)

pub same_answer : (spec : Spec) (result : Result Main Expand) → Gives spec result ↔ Gives (bare spec) result
same_answer spec (Ok main) = (
  λ g. (same_refusal spec ∙ g.0, g.1 ∙ sym (same_tree spec)),
  λ g. (sym (same_refusal spec) ∙ g.0, g.1 ∙ same_tree spec),
)
same_answer spec (Err (answers.Refused r)) = (λ g. same_refusal spec ∙ g, λ g. sym (same_refusal spec) ∙ g)
same_answer spec (Err answers.Memory) = (λ g. tt, λ g. tt)
