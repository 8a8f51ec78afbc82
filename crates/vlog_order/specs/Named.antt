-- Gates whose pins are there.
use Rattle.std.specs.Prelude.{◌≡◌, ℕ, ◌<◌, List, Some, slice_get}
use Rattle.net_core.specs.declared.gate.Wire.TheVariants.{Gate}
use Rattle.net_core.specs.declared.gate as netlist

-- each pin that is a gate names one that is there
pub record AllNamed (count : ℕ) (gates : List netlist.Gate.Gate) : Type 0 where
  pub each : (n : ℕ) (g : netlist.Gate.Gate) (i m : ℕ) → slice_get gates n ≡ Some g
      → slice_get g.pins i ≡ Some (Gate m) → m < count
