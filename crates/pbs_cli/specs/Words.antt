-- What the words of the command line ask for: they match exactly, and anything else is usage.
use Rattle.std.specs.Prelude.{ℕ, zero, suc, List, [], ◌∷◌, map, codes, decimal, bytes_eq, string_bytes, String, Option, Some}
use Rattle.std.specs.Prelude.{None, if◌then◌else◌}
use Rattle.std.specs.declared.alloc.Global.{Global}

-- what is done with the first file, which is a specification, and for `sim` a netlist
pub data Job : Type 0 where
  Check : Job
  Compile : Job
  Map : Job
  Migrate : Job
  Sim : (trace : List ℕ) → Job
  Trace : (trace : List ℕ) → Job

pub data Command : Type 0 where
  Run : (job : Job) (first : List ℕ) → Command
  Soak : (number : ℕ) → Command
  Usage : Command

abbrev pub texts : List (String Global) → List (List ℕ)
texts words = map string_bytes words

-- the number from 1 to `most` that has these digits
unfoldable pub number_up_to : ℕ → List ℕ → Option ℕ
number_up_to zero digits = None
number_up_to (suc n) digits =
    if bytes_eq digits (decimal (suc n)) then Some (suc n) else number_up_to n digits

abbrev pub soak_of : Option ℕ → Command
soak_of (Some n) = Soak n
soak_of None = Usage

abbrev pub command_of : List (List ℕ) → Command
command_of (word ∷ first ∷ []) =
    if bytes_eq word (codes "check") then Run Check first
    else if bytes_eq word (codes "compile") then Run Compile first
    else if bytes_eq word (codes "map") then Run Map first
    else if bytes_eq word (codes "migrate") then Run Migrate first
    else if bytes_eq word (codes "soak") then soak_of (number_up_to 1000 first)
    else Usage
command_of (word ∷ first ∷ second ∷ []) =
    if bytes_eq word (codes "sim") then Run (Sim second) first
    else if bytes_eq word (codes "trace") then Run (Trace second) first
    else Usage
command_of _ = Usage
