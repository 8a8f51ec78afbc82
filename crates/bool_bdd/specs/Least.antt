-- The least vector that satisfies a node.
use Rattle.std.specs.Prelude.{◌≡◌, ℕ, ◌^◌, ◌≤◌, min, true, false, List, Option, Some, None, MatchOption, bit_or}
use Rattle.bool_bdd.specs.declared.node.Node.{Node}
use Rattle.bool_bdd.specs.declared.node.Branch.{Branch}
use Rattle.bool_bdd.specs.Diagrams.{node_holds}

-- no vector satisfies the node
pub record IsNever (nodes : List Branch) (n : Node) : Type 0 where
  pub never : (v : ℕ) → node_holds nodes n v ≡ false

-- the vector satisfies the node, and no smaller one does
pub record IsLeast (nodes : List Branch) (n : Node) (v : ℕ) : Type 0 where
  pub holds : node_holds nodes n v ≡ true
  pub least : (w : ℕ) → node_holds nodes n w ≡ true → v ≤ w

-- the answer is the least vector that satisfies the node, and none exactly where there is none
abbrev pub IsLeastOf : List Branch → Node → Option ℕ → Type 0
IsLeastOf nodes n answer = MatchOption answer (IsNever nodes n) (λ v. IsLeast nodes n v)

-- the vector with input k set
abbrev pub set_in : ℕ → Option ℕ → Option ℕ
set_in k None = None
set_in k (Some v) = Some (bit_or v (2 ^ k))

-- the smaller of the vectors that are there
abbrev pub smaller_of : Option ℕ → Option ℕ → Option ℕ
smaller_of None b = b
smaller_of (Some v) None = Some v
smaller_of (Some v) (Some w) = Some (min v w)
