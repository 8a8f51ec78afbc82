-- Decision diagrams: lists of branches, each of which looks at one input and names earlier branches.
use Rattle.std.specs.Prelude.{◌≡◌, ℕ, zero, suc, ◌<◌, ◌≤◌, Bool, false, ◌&&◌, if◌then◌else◌, List, length}
use Rattle.std.specs.Prelude.{slice_index_or, nat_eq}
use Rattle.pbs_base.specs.Entries.{bit}
use Rattle.bool_bdd.specs.declared.node.Node.{Node}
use Rattle.bool_bdd.specs.declared.node.Node.TheVariants.{Leaf, Inner}
use Rattle.bool_bdd.specs.declared.node.Branch.{Branch}

-- the branch of this number
abbrev pub branch_at : List Branch → ℕ → Branch
branch_at nodes k = slice_index_or nodes k (record { variable = 0; low = Leaf false; high = Leaf false })

-- the branch's child for a value of its input
abbrev pub child_of : Branch → Bool → Node
child_of x value = if value then x.high else x.low

-- the child on the vector's path
abbrev pub next_of : Branch → ℕ → Node
next_of x v = child_of x (bit x.variable v)

-- the vector's path from the node comes within so many branches to the constant true
abbrev pub comes_true : ℕ → List Branch → Node → ℕ → Bool
comes_true k nodes (Leaf value) v = value
comes_true zero nodes (Inner n) v = false
comes_true (suc k) nodes (Inner n) v = comes_true k nodes (next_of (branch_at nodes n) v) v

-- the most branches on a path from the node
abbrev pub path_bound : Node → ℕ
path_bound (Leaf value) = 0
path_bound (Inner n) = suc n

-- the meaning of a node: it is true in the vector
unfoldable pub node_holds : List Branch → Node → ℕ → Bool
node_holds nodes n v = comes_true (path_bound n) nodes n v

-- the node is a constant or one of the first branches, so many
abbrev pub IsAmongFirst : ℕ → Node → Type 0
IsAmongFirst count (Leaf value) = Unit {0}
IsAmongFirst count (Inner n) = n < count

-- the node belongs to this store
abbrev pub IsNode : List Branch → Node → Type 0
IsNode nodes n = IsAmongFirst (length nodes) n

-- the first input on a path from the node, 64 at a constant
abbrev pub level : List Branch → Node → ℕ
level nodes (Leaf value) = 64
level nodes (Inner n) = (branch_at nodes n).variable

-- the branch may be that of number k: its children come earlier in the list and look at later inputs
pub record FitsAt (nodes : List Branch) (k : ℕ) (x : Branch) : Type 0 where
  pub variable : x.variable < 64
  pub low_there : IsAmongFirst k x.low
  pub high_there : IsAmongFirst k x.high
  pub low_later : x.variable < level nodes x.low
  pub high_later : x.variable < level nodes x.high

-- each branch fits
pub record IsDiagram (nodes : List Branch) : Type 0 where
  pub each : (k : ℕ) → k < length nodes → FitsAt nodes k (branch_at nodes k)

-- the old nodes are still there, and mean what they meant
pub record Keeps (old new : List Branch) : Type 0 where
  pub there : (n : Node) → IsNode old n → IsNode new n
  pub meaning : (n : Node) → IsNode old n → (v : ℕ) → node_holds new n v ≡ node_holds old n v

-- branches were added at the end
pub record Grows (old new : List Branch) : Type 0 where
  pub longer : length old ≤ length new
  pub same : (k : ℕ) → k < length old → branch_at new k ≡ branch_at old k

-- no vector satisfies both nodes
pub record AreDisjoint (nodes : List Branch) (a b : Node) : Type 0 where
  pub never : (v : ℕ) → (node_holds nodes a v && node_holds nodes b v) ≡ false

-- the node belongs to the store, and has this meaning
pub record IsFor (nodes : List Branch) (meaning_of : ℕ → Bool) (n : Node) : Type 0 where
  pub there : IsNode nodes n
  pub meaning : (v : ℕ) → node_holds nodes n v ≡ meaning_of v

-- the node belongs to the store, and its paths look at later inputs only
pub record IsAfter (nodes : List Branch) (k : ℕ) (n : Node) : Type 0 where
  pub there : IsNode nodes n
  pub later : k < level nodes n

-- the node where input k has this value; no path to its branch of input k looks at another input before
abbrev pub side_of : List Branch → ℕ → Bool → Node → Node
side_of nodes k value (Leaf b) = Leaf b
side_of nodes k value (Inner n) =
    if nat_eq (branch_at nodes n).variable k then child_of (branch_at nodes n) value else Inner n

-- the node is that of the branch, or its child where both are the same
pub record IsMade (nodes : List Branch) (x : Branch) (n : Node) : Type 0 where
  pub there : IsNode nodes n
  pub later : x.variable ≤ level nodes n
  pub meaning : (v : ℕ) → node_holds nodes n v ≡ node_holds nodes (next_of x v) v
