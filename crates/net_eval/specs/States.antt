-- What a simulator keeps.
use Rattle.std.specs.Prelude.{◌≡◌, ℕ, ◌<◌, Bool, false, List, length, replicate, slice_index_or}
use Rattle.net_core.specs.Rows.{Row, IsRow}
use Rattle.net_core.specs.Circuits.{Circuit, IsCircuit}
use Rattle.net_core.specs.Runs.{next_of}
use Rattle.net_eval.specs.declared.gates.Begun.{Begun}
use Rattle.net_eval.specs.declared.sim.Past.{Past}

-- what a row begins with
pub record Start : Type 0 where
  pub registers : List Bool
  pub reset : Bool
  pub inputs : ℕ

-- the netlist, the registers after the last row, and the gates in it; whether there was a row, what the last one began
-- with, and how many gates were evaluated in it
pub record State : Type 0 where
  pub net : Circuit
  pub registers : List Bool
  pub gates : List Bool
  pub begun : Bool
  pub last : Start
  pub evaluated : ℕ

-- what the arrays of a simulator say, where the last row began with these registers
abbrev pub state_of : Circuit → List Bool → List Bool → List Bool → Past → ℕ → State
state_of net registers gates before past evaluated = record {
  net = net;
  registers = registers;
  gates = gates;
  begun = past.begun;
  last = record { registers = before; reset = past.reset; inputs = past.inputs };
  evaluated = evaluated;
}

-- the row with these values of registers and gates
abbrev pub row_of : List Bool → Bool → ℕ → List Bool → Row
row_of registers reset vector gates = record {
  registers = λ r. slice_index_or registers r false;
  reset = reset;
  vector = vector;
  gates = λ n. slice_index_or gates n false;
}

abbrev pub begun_row : Begun → List Bool → Row
begun_row begun gates = row_of begun.registers.now begun.reset begun.inputs gates

-- the last row
abbrev pub last_row : State → Row
last_row s = row_of s.last.registers s.last.reset s.last.inputs s.gates

-- no row was made yet
pub record IsFresh (s : State) : Type 0 where
  pub registers : s.registers ≡ replicate (length s.net.registers) false
  pub gates : s.gates ≡ replicate (length s.net.gates) false

-- one row was made, and the registers have their next values
pub record Steps (old new : State) (rst : Bool) (inputs : ℕ) : Type 0 where
  pub circuit : IsCircuit old.net
  pub net : new.net ≡ old.net
  pub row : IsRow old.net.gates (row_of old.registers rst inputs new.gates)
  pub registers : (r : ℕ) → r < length old.net.registers
      → slice_index_or new.registers r false ≡ next_of old.net (row_of old.registers rst inputs new.gates) r
