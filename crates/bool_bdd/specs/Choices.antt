-- Questions for a node, and the answers that a store keeps.
use Rattle.std.specs.Prelude.{◌≡◌, ℕ, ◌≤◌, min, Bool, if◌then◌else◌, List, Option, Some}
use Rattle.bool_bdd.specs.declared.node.Node.{Node}
use Rattle.bool_bdd.specs.declared.node.Branch.{Branch}
use Rattle.bool_bdd.specs.declared.node.Choice.{Choice}
use Rattle.bool_bdd.specs.Least.{IsLeastOf}
use Rattle.bool_bdd.specs.Diagrams.{IsDiagram, IsNode, level, node_holds, side_of}

-- the nodes of the question belong to the store
pub record IsAsked (nodes : List Branch) (c : Choice) : Type 0 where
  pub test : IsNode nodes c.test
  pub if_true : IsNode nodes c.if_true
  pub if_false : IsNode nodes c.if_false

-- the first input that the question depends on, 64 where there is none
abbrev pub first_of : List Branch → Choice → ℕ
first_of nodes c = min (level nodes c.test) (min (level nodes c.if_true) (level nodes c.if_false))

-- the question where input k has this value
abbrev pub sides_of : List Branch → ℕ → Bool → Choice → Choice
sides_of nodes k value c = record {
  test = side_of nodes k value c.test;
  if_true = side_of nodes k value c.if_true;
  if_false = side_of nodes k value c.if_false;
}

-- the truth of `if test then if_true else if_false`
abbrev pub choice_holds : List Branch → Choice → ℕ → Bool
choice_holds nodes c v =
    if node_holds nodes c.test v then node_holds nodes c.if_true v else node_holds nodes c.if_false v

-- the node answers the question
pub record IsChosen (nodes : List Branch) (c : Choice) (n : Node) : Type 0 where
  pub asked : IsAsked nodes c
  pub there : IsNode nodes n
  pub later : first_of nodes c ≤ level nodes n
  pub meaning : (v : ℕ) → node_holds nodes n v ≡ choice_holds nodes c v

-- what is kept for each node is its least vector
pub record AreLeasts (nodes : List Branch) (kept : Node → Option (Option ℕ)) : Type 0 where
  pub there : (n : Node) (answer : Option ℕ) → kept n ≡ Some answer → IsNode nodes n
  pub right : (n : Node) (answer : Option ℕ) → kept n ≡ Some answer → IsLeastOf nodes n answer

-- what holds of every store: it is a diagram, and the answers and the least vectors that it keeps are right
pub record IsStore (nodes : List Branch) (known : Choice → Option Node) (kept : Node → Option (Option ℕ)) : Type 0 where
  pub diagram : IsDiagram nodes
  pub right : (c : Choice) (n : Node) → known c ≡ Some n → IsChosen nodes c n
  pub leasts : AreLeasts nodes kept
