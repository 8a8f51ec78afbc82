-- Lists of wires, one for each leaf.
use Rattle.std.specs.Prelude.{◌≡◌, ℕ, ◌+◌, ◌<◌, Bool, ◌||◌, List, length}
use Rattle.pbs_ast.specs.Trees.{Tree}
use Rattle.pbs_machine.specs.Rows.{main_starts}
use Rattle.net_core.specs.declared.gate.Wire.{Wire}
use Rattle.net_core.specs.Rows.{Row, IsRow, value}
use Rattle.net_core.specs.Circuits.{Circuit, circuit_of, wire_at}
use Rattle.net_core.specs.Building.{HasAll}
use Rattle.frag_compose.specs.inner.Fits.{is_leaf}

-- each leaf's wire is 1 where it was, and where the leaf is reached
pub record Gains (c : Circuit) (old new : List Wire) (reach : Row → ℕ → Bool) : Type 0 where
  pub there : HasAll c new
  pub same : length new ≡ length old
  pub meaning : (row : Row) → IsRow c.gates row → (leaf : ℕ) → leaf < length old
      → value row (wire_at new leaf) ≡ (value row (wire_at old leaf) || reach row leaf)

-- the leaf is begun in this row
abbrev pub leaf_reached : ℕ → Tree → Row → ℕ → Bool
leaf_reached n tree row leaf = main_starts tree (is_leaf n leaf) row.registers row.vector row.reset

-- the wires say where each of n places and m actions is begun
pub record ReachesAll (c : Circuit) (n m : ℕ) (tree : Tree) (wires : List Wire) : Type 0 where
  pub there : HasAll c wires
  pub count : length wires ≡ n + m
  pub meaning : (row : Row) → IsRow c.gates row → (leaf : ℕ) → leaf < n + m
      → value row (wire_at wires leaf) ≡ leaf_reached n tree row leaf

-- the same circuit with these data wires
abbrev pub with_registers : Circuit → List Wire → Circuit
with_registers c registers = circuit_of c.inputs c.gates registers c.outputs
