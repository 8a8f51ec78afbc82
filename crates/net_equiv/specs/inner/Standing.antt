-- Nodes that stand for wires, over a list of variables.
use Rattle.std.specs.Prelude.{◌≡◌, ℕ, ◌<◌, ◌≤◌, Bool, true, false, List, length, slice_get, slice_index_or, Some, None}
use Rattle.std.specs.Prelude.{Option}
use Rattle.pbs_base.specs.Entries.{bit}
use Rattle.net_core.specs.declared.gate.Wire.{Wire}
use Rattle.net_core.specs.declared.gate.Wire.TheVariants as wire
use Rattle.net_core.specs.declared.gate.Gate as gate
use Rattle.net_core.specs.Rows.{Row, IsRow, differs, value}
use Rattle.net_core.specs.Circuits.{IsThere}
use Rattle.bool_bdd.specs.declared.node.Branch.{Branch}
use Rattle.bool_bdd.specs.declared.node.Node.{Node}
use Rattle.bool_bdd.specs.declared.node.Node.TheVariants.{Leaf}
use Rattle.bool_bdd.specs.Diagrams.{IsNode, node_holds}
use Rattle.net_equiv.specs.declared.nodes.Side.{Side}
use Rattle.net_equiv.specs.declared.answer.VarName.{VarName}
use Rattle.net_equiv.specs.Cones.{variable_of, Has}
use Rattle.net_equiv.specs.inner.Walking.{is_marked, name_at}

-- one side of a comparison: its gates, what its registers count as, the variables, and the reset bit
pub record View : Type 0 where
  pub gates : List gate.Gate
  pub names : List VarName
  pub vars : List VarName
  pub reset : Bool

abbrev pub view_of : Side → View
view_of side =
    record { gates = side.gates.now; names = side.names.now; vars = side.vars.now; reset = side.reset }

-- a row of the side in which each wire that counts as variable t is bit t of the vector
pub record Fits (side : View) (v : ℕ) (z : Row) : Type 0 where
  pub row : IsRow side.gates z
  pub reset : z.reset ≡ side.reset
  pub leaves : (t : ℕ) (w : Wire) (x : VarName) → IsThere 64 (length side.names) (length side.gates) w
      → variable_of (name_at side.names) w ≡ Some x → slice_get side.vars t ≡ Some x → value z w ≡ bit t v

-- the node has this meaning in such rows
pub record Tells (nodes : List Branch) (side : View) (meaning_of : Row → Bool) (n : Node) : Type 0 where
  pub there : IsNode nodes n
  pub meaning : (v : ℕ) (z : Row) → Fits side v z → node_holds nodes n v ≡ meaning_of z

abbrev pub node_at : List Node → ℕ → Node
node_at known k = slice_index_or known k (Leaf false)

-- the wire's variable is in the list, or its gate's node is known
pub record IsReady (nodes : List Branch) (side : View) (known : List Node) (w : Wire) : Type 0 where
  pub there : IsThere 64 (length side.names) (length known) w
  pub leaf : (x : VarName) → variable_of (name_at side.names) w ≡ Some x → Has side.vars x
  pub gate : (k : ℕ) → w ≡ wire.Gate k → Tells nodes side (λ z. z.gates k) (node_at known k)

pub record AllReady (nodes : List Branch) (side : View) (known : List Node) (pins : List Wire) : Type 0 where
  pub each : (k : ℕ) (w : Wire) → slice_get pins k ≡ Some w → IsReady nodes side known w

-- the nodes of the first listed gates, so many
pub record AreKnown (nodes : List Branch) (side : View) (listed : List ℕ) (count : ℕ) (known : List Node) : Type 0 where
  pub each : (j k : ℕ) → j < count → slice_get listed j ≡ Some k → Tells nodes side (λ z. z.gates k) (node_at known k)

-- the nodes of all marked gates
pub record AreNodes (nodes : List Branch) (side : View) (marks : List Bool) (known : List Node) : Type 0 where
  pub long : length known ≡ length side.gates
  pub each : (k : ℕ) → is_marked marks k ≡ true → Tells nodes side (λ z. z.gates k) (node_at known k)

-- the two wires are equal for each vector
pub record NeverApart (a b : View) (a_wire b_wire : Wire) : Type 0 where
  pub same : (v : ℕ) (x y : Row) → Fits a v x → Fits b v y → differs (value x a_wire) (value y b_wire) ≡ false

-- the two wires differ for this vector, and are equal for each smaller one
pub record LeastApart (a b : View) (a_wire b_wire : Wire) (v : ℕ) : Type 0 where
  pub unequal : (x y : Row) → Fits a v x → Fits b v y → differs (value x a_wire) (value y b_wire) ≡ true
  pub least : (w : ℕ) (x y : Row) → Fits a w x → Fits b w y → differs (value x a_wire) (value y b_wire) ≡ true → v ≤ w

-- the least vector for which the two wires differ, and none where there is none
abbrev pub IsLeastApart : View → View → Wire → Wire → Option ℕ → Type 0
IsLeastApart a b a_wire b_wire None = NeverApart a b a_wire b_wire
IsLeastApart a b a_wire b_wire (Some v) = LeastApart a b a_wire b_wire v
