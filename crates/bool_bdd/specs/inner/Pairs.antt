-- Pairs of nodes, and which of them are disjoint.
use Rattle.std.specs.Prelude.{◌≡◌, ℕ, min, Bool, true, false, not, List, Option, Some, None}
use Rattle.bool_bdd.specs.declared.node.Node.{Node}
use Rattle.bool_bdd.specs.declared.node.Node.TheVariants.{Leaf, Inner}
use Rattle.bool_bdd.specs.declared.node.Branch.{Branch}
use Rattle.bool_bdd.specs.declared.node.Pair.{Pair}
use Rattle.bool_bdd.specs.Diagrams.{AreDisjoint, IsNode, level, side_of}

-- both nodes of the pair belong to the store
pub record IsPair (nodes : List Branch) (p : Pair) : Type 0 where
  pub left : IsNode nodes p.left
  pub right : IsNode nodes p.right

-- the first input that the pair depends on, 64 where there is none
abbrev pub pair_first : List Branch → Pair → ℕ
pair_first nodes p = min (level nodes p.left) (level nodes p.right)

-- the pair where input k has this value
abbrev pub halves_of : List Branch → ℕ → Bool → Pair → Pair
halves_of nodes k value p = record {
  left = side_of nodes k value p.left;
  right = side_of nodes k value p.right;
}

-- whether the two are disjoint, where constants tell
abbrev pub settled_by : Node → Node → Option Bool
settled_by (Leaf false) b = Some true
settled_by (Leaf true) (Leaf b) = Some (not b)
settled_by (Leaf true) (Inner n) = None
settled_by (Inner n) (Leaf false) = Some true
settled_by (Inner n) (Leaf true) = None
settled_by (Inner n) (Inner m) = None

-- each pair of the set is disjoint
pub record AllDisjoint (nodes : List Branch) (has : Pair → Bool) : Type 0 where
  pub each : (p : Pair) → has p ≡ true → AreDisjoint nodes p.left p.right
