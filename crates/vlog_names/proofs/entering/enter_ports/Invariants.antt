use Rattle.std.proofs.Common.{Some}
use Rattle.vlog_text.specs.declared.raw.RawName.{RawName}
use Rattle.vlog_names.proofs.Entries.{Entered}
use Rattle.vlog_names.proofs.entering.enter_ports.Given as goal

abbrev pub invariant-loop-place : goal.invariant-loop-place
invariant-loop-place l = Entered (λ (n : RawName). Some n) 4 l.ports l.place l.firsts l.initial.found l.found
