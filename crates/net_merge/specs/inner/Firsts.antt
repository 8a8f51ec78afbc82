-- The first register that takes a gate, and what reads it in place of others.
use Rattle.std.specs.Prelude.{◌≡◌, ◌≢◌, ℕ, ◌<◌, ◌≤◌, List, length, map, slice_get, slice_index_or, Option, None, Some}
use Rattle.net_core.specs.declared.gate.Wire.{Wire}
use Rattle.net_core.specs.declared.gate.Wire.TheVariants.{Const, Reset, Input, Reg, Gate}
use Rattle.net_core.specs.declared.gate.Gate as gate

-- register f is the first that takes the gate that register r takes
pub record IsFirst (registers : List Wire) (r f : ℕ) : Type 0 where
  pub before : f ≤ r
  pub same : slice_get registers f ≡ slice_get registers r
  pub least : (q n : ℕ) → slice_get registers r ≡ Some (Gate n) → slice_get registers q ≡ Some (Gate n) → f ≤ q

-- of each of the first registers the first that takes its gate
pub record AreFirstsOf (registers : List Wire) (count : ℕ) (firsts : List ℕ) : Type 0 where
  pub long : length firsts ≡ count
  pub each : (r f : ℕ) → slice_get firsts r ≡ Some f → IsFirst registers r f

abbrev pub AreFirsts : List Wire → List ℕ → Type 0
AreFirsts registers firsts = AreFirstsOf registers (length registers) firsts

-- a taken gate has a number below this one
pub record TakeBelow (gates : ℕ) (registers : List Wire) : Type 0 where
  pub each : (r n : ℕ) → slice_get registers r ≡ Some (Gate n) → n < gates

-- for each gate the first of so many registers that takes it
pub record AreTakers (registers : List Wire) (count : ℕ) (takers : List (Option ℕ)) : Type 0 where
  pub takes : (n q : ℕ) → slice_get takers n ≡ Some (Some q) → slice_get registers q ≡ Some (Gate n)
  pub least : (n q k : ℕ) → slice_get takers n ≡ Some (Some q) → slice_get registers k ≡ Some (Gate n) → q ≤ k
  pub none : (n k : ℕ) → slice_get takers n ≡ Some None → k < count → slice_get registers k ≢ Some (Gate n)

-- the wire, with the first register in place of a register
abbrev pub read_as : List ℕ → Wire → Wire
read_as firsts (Const b) = Const b
read_as firsts Reset = Reset
read_as firsts (Input n) = Input n
read_as firsts (Reg r) = Reg (slice_index_or firsts r 0)
read_as firsts (Gate n) = Gate n

abbrev pub gate_read_as : List ℕ → gate.Gate → gate.Gate
gate_read_as firsts g = record { kind = g.kind; pins = map (read_as firsts) g.pins }

-- a register that the wire names is below this number
abbrev pub ReadsBelow : ℕ → Wire → Type 0
ReadsBelow n (Const b) = Unit {0}
ReadsBelow n Reset = Unit {0}
ReadsBelow n (Input i) = Unit {0}
ReadsBelow n (Reg r) = r < n
ReadsBelow n (Gate g) = Unit {0}

pub record AllReadBelow (n : ℕ) (wires : List Wire) : Type 0 where
  pub each : (k : ℕ) (w : Wire) → slice_get wires k ≡ Some w → ReadsBelow n w

pub record GatesReadBelow (n : ℕ) (gates : List gate.Gate) : Type 0 where
  pub each : (k : ℕ) (g : gate.Gate) → slice_get gates k ≡ Some g → AllReadBelow n g.pins
