-- What the answer for a raw netlist says.
use Rattle.std.specs.Prelude.{◌≡◌, Some, None, Result, Ok, Err}
use Rattle.net_core.specs.Circuits.{Circuit}
use Rattle.vlog_text.specs.declared.raw.RawNetlist.{RawNetlist}
use Rattle.vlog_text.specs.Refusing.{first_broken}
use Rattle.vlog_text.specs.Standing.{net_of}
use Rattle.vlog_text.specs.declared.fail.VlogFail.{VlogFail}
use Rattle.vlog_text.specs.declared.fail.VlogFail.TheVariants as fail

-- the netlist, where no rule is broken; or the first place where one is; or there was no memory
abbrev pub Elaborates : RawNetlist → Result Circuit VlogFail → Type 0
Elaborates raw (Ok net) = (first_broken raw ≡ None) × (net ≡ net_of raw)
Elaborates raw (Err (fail.Refused r)) = first_broken raw ≡ Some r
Elaborates raw (Err fail.Memory) = Unit {0}
