-- What is said of a text.
use Rattle.std.specs.Prelude.{ℕ, List, Result, Ok, Err}
use Rattle.net_core.specs.Circuits.{Circuit}
use Rattle.vlog_text.specs.Reading.{ElaboratesTo, IsRefusedVerilog}
use Rattle.vlog_text.specs.declared.fail.VlogFail.{VlogFail}
use Rattle.vlog_text.specs.declared.fail.VlogFail.TheVariants.{Refused, Memory}

-- the netlist that the text stands for, or its first broken rule and the place, unless memory ran out
abbrev pub Reads : List ℕ → Result Circuit VlogFail → Type 0
Reads bytes (Ok net) = ElaboratesTo bytes net
Reads bytes (Err (Refused r)) = IsRefusedVerilog bytes r
Reads bytes (Err Memory) = Unit {0}
