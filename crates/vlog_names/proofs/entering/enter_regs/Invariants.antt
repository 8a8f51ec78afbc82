use Rattle.std.proofs.Common.{Some}
use Rattle.vlog_text.specs.declared.raw.RawReg.{RawReg}
use Rattle.vlog_names.proofs.Entries.{Entered}
use Rattle.vlog_names.proofs.entering.enter_regs.Given as goal

abbrev pub invariant-loop-place : goal.invariant-loop-place
invariant-loop-place l = Entered (λ (r : RawReg). Some r.target) 5 l.regs l.place l.firsts l.initial.found l.found
