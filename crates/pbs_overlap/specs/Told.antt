-- What the check of the overlap rule tells of a tree.
use Rattle.std.specs.Prelude.{◌≡◌, ℕ, ◌+◌, ◌*◌, ◌<◌, ◌↔◌, Bool, true, false, slice_index_or, Some}
use Rattle.pbs_ast.specs.Trees.{Tree}
use Rattle.pbs_ast.specs.Sound.{place_count}
use Rattle.pbs_edges.specs.Walks.{IsRefused, Together}
use Rattle.pbs_overlap.specs.declared.pairs.Pairs.{Pairs}
use Rattle.pbs_overlap.specs.declared.fail.OverlapFail.{OverlapFail}
use Rattle.pbs_overlap.specs.declared.fail.OverlapFail.TheVariants.{Scope, Memory}
use Rattle.pbs_overlap.specs.Ranges.{scope_span}

-- what the table says of two places
abbrev pub says : Pairs → ℕ → ℕ → Bool
says pairs p q = slice_index_or pairs.table.items (p * pairs.places + q) false

-- the table says which places of the tree are together
pub record TellsTogether (main : Tree) (pairs : Pairs) : Type 0 where
  pub places : pairs.places ≡ place_count main
  pub exact : (p q : ℕ) → p < place_count main → q < place_count main → (says pairs p q ≡ true) ↔ Together main p q

-- the scope is refused, no lower one is, and the span is its own
abbrev pub IsOverlapCause : Tree → OverlapFail → Type 0
IsOverlapCause main (Scope s span) = IsRefused main s × ((t : ℕ) → t < s → IsRefused main t → ⊥)
    × (scope_span s main ≡ Some span)
IsOverlapCause main Memory = Unit {0}
