-- What holds of the raw netlist of every text of the grammar.
use Rattle.std.specs.Prelude.{◌≡◌, ℕ, suc, ◌<◌, List, length, slice_get, Some}
use Rattle.net_core.specs.Circuits.{HasItsPins}
use Rattle.vlog_text.specs.declared.raw.RawGate.{RawGate}
use Rattle.vlog_text.specs.declared.raw.RawReg.{RawReg}
use Rattle.vlog_text.specs.declared.raw.RawNetlist.{RawNetlist}
use Rattle.vlog_text.specs.declared.raw.RawPin.{RawPin}
use Rattle.vlog_text.specs.declared.raw.RawPin.TheVariants as pin
use Rattle.vlog_text.specs.declared.raw.Target.{Target}
use Rattle.vlog_text.specs.declared.raw.Target.TheVariants as target

abbrev pub IsInner : Target → Type 0
IsInner (target.Name name) = ⊥
IsInner target.Inner = Unit {0}

-- the pin is no gate, or an inner gate before number n
abbrev pub PinFits : List RawGate → ℕ → RawPin → Type 0
PinFits gates n (pin.Const b) = Unit {0}
PinFits gates n (pin.Name name) = Unit {0}
PinFits gates n (pin.Prior m) = (m < n) × ((g : RawGate) → slice_get gates m ≡ Some g → IsInner g.target)

-- the pin is a name or a constant
abbrev pub IsOperand : RawPin → Type 0
IsOperand (pin.Const b) = Unit {0}
IsOperand (pin.Name name) = Unit {0}
IsOperand (pin.Prior m) = ⊥

-- gate n has as many pins as its kind asks, and reads inner gates before it
pub record GateFits (gates : List RawGate) (n : ℕ) (g : RawGate) : Type 0 where
  pub count : HasItsPins g.kind (length g.pins)
  pub pins : (k : ℕ) (p : RawPin) → slice_get g.pins k ≡ Some p → PinFits gates n p

pub record IsRaw (raw : RawNetlist) : Type 0 where
  pub gates_few : length raw.gates < 4294967295
  pub regs_few : length raw.regs < 4294967295
  pub gates_fit : (n : ℕ) (g : RawGate) → slice_get raw.gates n ≡ Some g → GateFits raw.gates n g
  -- the last gate isn't inner
  pub last : (n : ℕ) (g : RawGate) → slice_get raw.gates n ≡ Some g → length raw.gates ≡ suc n → IsInner g.target → ⊥
  pub operands : (n : ℕ) (r : RawReg) → slice_get raw.regs n ≡ Some r → IsOperand r.wire
