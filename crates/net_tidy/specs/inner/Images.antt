-- Wires of the result that stand for the gates of the source.
use Rattle.std.specs.Prelude.{◌≡◌, ℕ, ◌<◌, ◌≤◌, List, length}
use Rattle.net_core.specs.declared.gate.Wire.{Wire}
use Rattle.net_core.specs.declared.gate.Wire.TheVariants.{Const, Reset, Input, Reg, Gate}
use Rattle.net_core.specs.declared.gate.Gate as gate
use Rattle.net_core.specs.Rows.{Row, IsRow, value}
use Rattle.net_core.specs.Circuits.{Circuit, IsBuilt, IsThere, wire_at}
use Rattle.net_eval.specs.Assignments.{row_with}
use Rattle.net_tidy.specs.inner.Made.{AllFit, HasNeatForms}

-- what stands for a wire of the source
abbrev pub image : List Wire → Wire → Wire
image stands (Const b) = Const b
image stands Reset = Reset
image stands (Input n) = Input n
image stands (Reg n) = Reg n
image stands (Gate n) = wire_at stands n

-- the row of the source that the row of the result shows
abbrev pub row_back : List Wire → Row → Row
row_back stands row = row_with row.registers row.reset row.vector (λ n. value row (wire_at stands n))

-- for each gate of the source a wire of the gates stands, with its value in every row
pub record IsFolded (source : Circuit) (gates : List gate.Gate) (stands : List Wire) : Type 0 where
  pub long : length stands ≡ length source.gates
  pub few : length gates ≤ length source.gates
  pub fit : AllFit (length source.inputs) (length source.registers) gates
  pub there : (n : ℕ) → n < length stands
      → IsThere (length source.inputs) (length source.registers) (length gates) (wire_at stands n)
  pub rows : (row : Row) → IsRow gates row → IsRow source.gates (row_back stands row)
  pub neat : HasNeatForms gates
  pub built : IsBuilt source.gates → IsBuilt gates
