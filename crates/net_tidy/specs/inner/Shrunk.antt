-- Gates that are enough for a circuit.
use Rattle.std.specs.Prelude.{◌≡◌, ℕ, ◌<◌, ◌≤◌, List, length, map}
use Rattle.net_core.specs.declared.gate.Wire.{Wire}
use Rattle.net_core.specs.declared.gate.Wire.TheVariants.{Gate}
use Rattle.net_core.specs.declared.gate.Gate as gate
use Rattle.net_core.specs.declared.netlist.Output.{Output}
use Rattle.net_core.specs.Rows.{Row, IsRow, value}
use Rattle.net_core.specs.Circuits.{Circuit, AllThere, IsBuilt, wire_at}
use Rattle.net_core.specs.Runs.{next_of, output_value}
use Rattle.net_tidy.specs.Tidy.{IsRead}
use Rattle.net_tidy.specs.inner.Made.{AllFit, HasNeatForms}

-- the wires that the outputs show
abbrev pub output_wires : List Output → List Wire
output_wires outputs = map (λ (o : Output). Gate o.gate) outputs

-- the row of the source that the row shows: with these wires for outputs and for registers' next values
pub record IsBack (source : Circuit) (shown next : List Wire) (of row : Row) : Type 0 where
  pub is : IsRow source.gates of
  pub registers : of.registers ≡ row.registers
  pub reset : of.reset ≡ row.reset
  pub vector : of.vector ≡ row.vector
  pub outputs : (n : ℕ) → n < length source.outputs → value row (wire_at shown n) ≡ output_value source of n
  pub nexts : (r : ℕ) → r < length source.registers → value row (wire_at next r) ≡ next_of source of r

-- the gates have a wire for each output and for each register
pub record IsShrunk (source : Circuit) (gates : List gate.Gate) (shown next : List Wire) : Type 0 where
  pub few : length gates ≤ length source.gates
  pub fit : AllFit (length source.inputs) (length source.registers) gates
  pub shown_long : length shown ≡ length source.outputs
  pub next_long : length next ≡ length source.registers
  pub shown_there : AllThere (length source.inputs) (length source.registers) (length gates) shown
  pub next_there : AllThere (length source.inputs) (length source.registers) (length gates) next
  pub back : Row → Row
  pub rows : (row : Row) → IsRow gates row → IsBack source shown next (back row) row
  pub neat : HasNeatForms gates
  pub built : IsBuilt source.gates → IsBuilt gates
  pub read : (n : ℕ) → n < length gates → IsRead gates shown next n
