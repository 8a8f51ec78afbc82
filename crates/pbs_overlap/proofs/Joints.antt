-- Tables of terms that can be true in one vector.
use Rattle.std.proofs.Common.{◌≡◌, ℕ, ◌+◌, ◌/◌, ◌%◌, Bool, true, false, not, ◌↔◌, inl, inr, List, [], ◌∷◌, ◌++◌, length}
use Rattle.std.proofs.Common.{get_or}
use Rattle.std.proofs.Common.{refl, sym, ◌∙◌, ap, subst, arith, length-append, IsTrue}
use Rattle.std.proofs.lemmas.Bool.{cases_eq, false≢true}
use Rattle.std.proofs.lemmas.List.{get_or_push, get_or_append_left}
use Rattle.bool_bdd.specs.Diagrams.{AreDisjoint}
use Rattle.bool_bdd.specs.declared.node.Node.{Node}
use Rattle.bool_bdd.specs.declared.node.Branch.{Branch}
use Rattle.pbs_overlap.specs.inner.Joints.{AreTold, node_at}

not_false_to : (b : Bool) → not b ≡ false → b ≡ true
not_false_to true h = refl
not_false_to false h = absurd (false≢true (sym h))

told_at : (store : List Branch) (nodes : List Node) (n : ℕ) (table new : List Bool) (apart : Bool)
    → length table ≡ n → AreTold store nodes n table → new ≡ table ++ not apart ∷ []
    → (IsTrue apart ↔ AreDisjoint store (node_at nodes (n / length nodes)) (node_at nodes (n % length nodes)))
    → AreTold store nodes (n + 1) new
told_at store nodes n table new apart size told grown here cell l = elim (cases_eq cell n) [
  | inl e ↦
      let last : get_or new cell false ≡ not apart =
      ap (λ xs. get_or xs cell false) grown ∙ get_or_push table (not apart) false cell (omega arith) in
      let cells : (IsTrue apart ↔ AreDisjoint store (node_at nodes (cell / length nodes))
      (node_at nodes (cell % length nodes))) =
      subst (λ k. IsTrue apart ↔ AreDisjoint store (node_at nodes (k / length nodes))
      (node_at nodes (k % length nodes))) (sym e) here in
      ((λ h. cells.0 (not_false_to apart (sym last ∙ h))), (λ d. last ∙ ap not (cells.1 d)))
  | inr other ↦
      let before : get_or new cell false ≡ get_or table cell false =
      ap (λ xs. get_or xs cell false) grown ∙ get_or_append_left table (not apart ∷ []) false cell (omega arith) in
      let old = told cell (omega arith) in
      ((λ h. old.0 (sym before ∙ h)), (λ d. before ∙ old.1 d))
]

pub told_more : (store : List Branch) (nodes : List Node) (n : ℕ) (table new : List Bool) (apart : Bool)
    → length table ≡ n → AreTold store nodes n table → new ≡ table ++ not apart ∷ []
    → (IsTrue apart ↔ AreDisjoint store (node_at nodes (n / length nodes)) (node_at nodes (n % length nodes)))
    → (length new ≡ n + 1) × AreTold store nodes (n + 1) new
told_more store nodes n table new apart size told grown here = (
  ap (λ xs. length xs) grown ∙ length-append table (not apart ∷ []) ∙ ap (λ k. k + 1) size,
  told_at store nodes n table new apart size told grown here,
)
