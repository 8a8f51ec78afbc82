-- Lists that stand one behind the other, and gates that are laid out so.
use Rattle.std.specs.Prelude.{◌≡◌, ℕ, ◌+◌, ◌<◌, ◌≤◌, List, [], length, map, slice_index_or}
use Rattle.net_core.specs.declared.gate.Wire.{Wire}
use Rattle.net_core.specs.declared.gate.GateKind.{GateKind}
use Rattle.net_core.specs.declared.gate.GateKind.TheVariants.{Buf}
use Rattle.net_core.specs.declared.gate.Gate as gate
use Rattle.net_eval.specs.Readers.{list_at}
use Rattle.net_eval.specs.declared.flat.FlatGates.{FlatGates}

-- the first k lists stand one behind the other, where list j is any of which `is j` holds
pub record AreFlat {X : Type 0} (is : ℕ → List X → Type 0) (k : ℕ) (starts : List ℕ) (all : List X) : Type 0 where
  pub long : length starts ≡ k + 1
  pub last : slice_index_or starts k 0 ≡ length all
  pub rising : (j : ℕ) → j < k → slice_index_or starts j 0 ≤ slice_index_or starts (j + 1) 0
  pub within : (j : ℕ) → j < k + 1 → slice_index_or starts j 0 ≤ length all
  pub lists : (j : ℕ) (xs : List X) → j < k → is j xs → list_at starts all j ≡ xs

-- the gate of this number, a buffer of nothing past the last
abbrev pub gate_at : List gate.Gate → ℕ → gate.Gate
gate_at gates n = slice_index_or gates n (record { kind = Buf; pins = [] })

abbrev pub kind_of : gate.Gate → GateKind
kind_of g = g.kind

-- the wires are the pins of this gate
abbrev pub ArePins : List gate.Gate → ℕ → List Wire → Type 0
ArePins gates n wires = wires ≡ (gate_at gates n).pins

-- the kinds and the pins are those of the gates
pub record AreLaid (laid : FlatGates) (gates : List gate.Gate) : Type 0 where
  pub kinds : laid.kinds.items ≡ map kind_of gates
  pub pins : AreFlat (ArePins gates) (length gates) laid.starts.items laid.pins.items
