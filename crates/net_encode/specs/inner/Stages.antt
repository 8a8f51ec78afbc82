-- The stages in which a netlist is encoded.
use Rattle.std.specs.Prelude.{◌≡◌, ℕ, ◌+◌, ◌<◌, false, List, length, drop, slice_get, Some, slice_index_or}
use Rattle.net_core.specs.declared.codes.Code.{Code}
use Rattle.net_core.specs.declared.gate.Wire.{Wire}
use Rattle.net_core.specs.declared.gate.Wire.TheVariants as wire
use Rattle.net_core.specs.Rows.{Row, IsRow, value}
use Rattle.net_core.specs.Circuits.{Circuit, AllThere, wire_at}
use Rattle.net_core.specs.Building.{HasAll, input_pins}
use Rattle.net_encode.specs.Codes.{code_registers, tells}
use Rattle.net_encode.specs.inner.Columns.{code_bits}

-- a wire for each code, which tells it, and then so many registers behind those that are shared
pub record IsTable (c : Circuit) (codes : List Code) (shared rest : ℕ) (table : List Wire) : Type 0 where
  pub there : HasAll c table
  pub count : length table ≡ length codes + rest
  pub told : (row : Row) → IsRow c.gates row → (p : ℕ) (code : Code) → slice_get codes p ≡ Some code
      → value row (wire_at table p) ≡ tells row.registers code
  pub own : (i : ℕ) → i < rest → wire_at table (length codes + i) ≡ wire.Reg (shared + i)

-- the data wires of the groups' registers, and then those of the others
pub record IsData (c : Circuit) (others : List Wire) (places : ℕ) (groups : List (List ℕ)) (regs : List Wire)
    : Type 0 where
  pub there : AllThere (length c.inputs) (length c.registers) (length c.gates) regs
  pub count : length regs + places ≡ code_registers groups + length others
  pub bits : (row : Row) → IsRow c.gates row → (r : ℕ) → r < code_registers groups
      → value row (wire_at regs r)
      ≡ slice_index_or (code_bits (λ p. value row (wire_at others p)) groups) r false
  pub rest : (i : ℕ) → wire_at regs (code_registers groups + i) ≡ wire_at others (places + i)
  pub pins : input_pins regs ≡ input_pins (drop places others)
