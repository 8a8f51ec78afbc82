-- Terms that can be true in one vector.
use Rattle.std.specs.Prelude.{◌≡◌, ℕ, ◌+◌, ◌*◌, ◌/◌, ◌%◌, ◌<◌, ◌≤◌, ◌↔◌, Bool, true, false, List, length, slice_get}
use Rattle.std.specs.Prelude.{slice_index, slice_index_or, Some, IsTrue}
use Rattle.bool_terms.specs.Terms.{holds, term_of, term_inputs_below}
use Rattle.bool_terms.specs.declared.Term.{Term}
use Rattle.bool_bdd.specs.Diagrams.{AreDisjoint, IsNode, IsFor}
use Rattle.bool_bdd.specs.declared.node.Node.{Node}
use Rattle.bool_bdd.specs.declared.node.Node.TheVariants.{Leaf}
use Rattle.bool_bdd.specs.declared.node.Branch.{Branch}
use Rattle.pbs_ast.specs.Trees.{Tree}
use Rattle.pbs_ast.specs.Sound.{place_count}
use Rattle.pbs_edges.specs.Walks.{CanOpenTogether}
use Rattle.pbs_overlap.specs.declared.joint.JointTerms.{JointTerms}

abbrev pub AllInputsBelow : List Term → Type 0
AllInputsBelow terms = (k : ℕ) (t : Term) → slice_get terms k ≡ Some t → IsTrue (term_inputs_below 64 (term_of t))

abbrev pub node_at : List Node → ℕ → Node
node_at nodes k = slice_index_or nodes k (Leaf false)

abbrev pub AllNodes : List Branch → List Node → Type 0
AllNodes store nodes = (k : ℕ) → k < length nodes → IsNode store (node_at nodes k)

-- each node stands for the term of its number, of the first n
abbrev pub StandFor : List Branch → List Term → List Node → ℕ → Type 0
StandFor store terms nodes n = (k : ℕ) (t : Term) → k < n → slice_get terms k ≡ Some t
    → IsFor store (holds (term_of t)) (node_at nodes k)

pub record AreNodes (store : List Branch) (terms : List Term) (nodes : List Node) : Type 0 where
  pub size : length nodes ≡ length terms
  pub stand : StandFor store terms nodes (length terms)

-- for each of the first n cells the table tells whether some vector satisfies its two nodes
abbrev pub AreTold : List Branch → List Node → ℕ → List Bool → Type 0
AreTold store nodes n table = (cell : ℕ) → cell < n
    → (slice_index_or table cell false ≡ false)
    ↔ AreDisjoint store (node_at nodes (cell / length nodes)) (node_at nodes (cell % length nodes))

-- the places' effective terms can be true in one vector, as the table tells
abbrev pub joint_at : JointTerms → ℕ → ℕ → Bool
joint_at t p q = slice_index_or t.joint.items (slice_index t.of_place p * t.count + slice_index t.of_place q) false

pub record TellsJoint (main : Tree) (t : JointTerms) : Type 0 where
  pub size : length t.of_place ≡ place_count main
  pub count : t.count ≤ 256
  pub below : (p : ℕ) → p < place_count main → slice_index t.of_place p < t.count
  pub table : length t.joint.items ≡ t.count * t.count
  pub exact : (p q : ℕ) → p < place_count main → q < place_count main
      → (joint_at t p q ≡ true) ↔ CanOpenTogether main p q
