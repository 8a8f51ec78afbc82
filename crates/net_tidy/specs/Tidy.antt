-- Circuits without a gate too many.
use Rattle.std.specs.Prelude.{◌≡◌, ◌≢◌, ℕ, ◌+◌, ◌<◌, ◌⊎◌, Bool}
use Rattle.std.specs.Prelude.{List, [], ◌∷◌, ◌++◌, length, map, reverse, slice_get, Some, Contains}
use Rattle.net_core.specs.declared.gate.Wire.{Wire}
use Rattle.net_core.specs.declared.gate.Wire.TheVariants as wire
use Rattle.net_core.specs.declared.gate.GateKind.TheVariants.{Not}
use Rattle.net_core.specs.declared.gate.Gate as gate
use Rattle.net_core.specs.declared.netlist.Output.{Output}
use Rattle.net_core.specs.Circuits.{Circuit, IsPlain}
use Rattle.net_core.specs.Building.{buffer_of}
use Rattle.net_core.specs.Unread.{AreUnread}

-- at most two pins, and the same ones in either order
abbrev pub AreSamePins : List Wire → List Wire → Type 0
AreSamePins ps qs = (ps ≡ qs) ⊎ (ps ≡ reverse qs)

-- each plain gate is a `not`, or an `and` or `or` of two different wires; none reads a constant, and no two are equal
pub record IsNeat (gates : List gate.Gate) : Type 0 where
  pub constants : (n : ℕ) (g : gate.Gate) → slice_get gates n ≡ Some g → IsPlain g
      → (k : ℕ) (b : Bool) → slice_get g.pins k ≢ Some (wire.Const b)
  pub single : (n : ℕ) (g : gate.Gate) → slice_get gates n ≡ Some g → IsPlain g → length g.pins ≡ 1 → g.kind ≡ Not
  pub different : (n : ℕ) (g : gate.Gate) → slice_get gates n ≡ Some g → IsPlain g → (w : Wire) → g.pins ≢ w ∷ w ∷ []
  pub once : (m n : ℕ) (g h : gate.Gate) → slice_get gates m ≡ Some g → slice_get gates n ≡ Some h
      → IsPlain g → IsPlain h → g.kind ≡ h.kind → AreSamePins g.pins h.pins → m ≡ n

-- one of the gates reads the gate of this number
pub record HasReader (gates : List gate.Gate) (n : ℕ) : Type 0 where
  pub number : ℕ
  pub reader : gate.Gate
  pub at : slice_get gates number ≡ Some reader
  pub pin : Contains reader.pins (wire.Gate n)

-- an output shows the gate, a register takes it, or one of the gates reads it
abbrev pub IsRead : List gate.Gate → List Wire → List Wire → ℕ → Type 0
IsRead gates shown next n = Contains shown (wire.Gate n) ⊎ (Contains next (wire.Gate n) ⊎ HasReader gates n)

-- the gates are inner ones, and behind them a `buf` for each output, in order
pub record IsTidy (c : Circuit) : Type 0 where
  pub inner : List gate.Gate
  pub shown : List Wire
  pub gates : c.gates ≡ inner ++ map buffer_of shown
  pub count : length shown ≡ length c.outputs
  pub driven : (k : ℕ) (o : Output) → slice_get c.outputs k ≡ Some o → o.gate ≡ length inner + k
  -- no gate and no register reads an output's gate
  pub unread : AreUnread c
  -- no inner gate is idle, equal to another one, or unread
  pub neat : IsNeat inner
  pub read : (n : ℕ) → n < length inner → IsRead inner shown c.registers n
