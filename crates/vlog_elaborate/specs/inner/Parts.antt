-- What the parts of the netlist are made of.
use Rattle.std.specs.Prelude.{◌≡◌, ℕ, List, map, slice_index}
use Rattle.net_core.specs.declared.netlist.Output.{Output}
use Rattle.vlog_text.specs.declared.raw.RawName.{RawName}
use Rattle.vlog_text.specs.declared.raw.RawGate.{RawGate}
use Rattle.vlog_text.specs.declared.raw.RawNetlist.{RawNetlist}
use Rattle.vlog_text.specs.Orders.{place_in}
use Rattle.vlog_text.specs.Standing.{resolved, the_order}
use Rattle.vlog_elaborate.specs.declared.check.Checked.{Checked}
use Rattle.vlog_names.specs.declared.wires.Numbers.{Numbers}
use Rattle.vlog_names.specs.Numbers.{AreNumbers, capped_gate, driver_in}

-- the tables, the gates of the text and their order are those of the raw netlist
pub record IsChecked (raw : RawNetlist) (checked : Checked) : Type 0 where
  pub numbers : AreNumbers raw checked.numbers
  pub gates : checked.gates ≡ map (λ (g : RawGate). capped_gate (resolved raw g)) raw.gates
  pub order : checked.order.items ≡ the_order raw

-- the list has the place of each gate in the order, and 0 past its end
pub record ArePlaces (raw : RawNetlist) (places : List ℕ) : Type 0 where
  pub each : (n : ℕ) → slice_index places n ≡ place_in (the_order raw) n

-- an output with its driver's place
abbrev pub output_at : Numbers → List ℕ → RawName → Output
output_at numbers places n = record {
  name = n.word;
  gate = slice_index places (driver_in numbers n.word);
}
