use Rattle.vlog_text.specs.declared.raw.RawGate.{RawGate}
use Rattle.vlog_text.specs.Words.{target_name}
use Rattle.vlog_names.proofs.Entries.{Entered}
use Rattle.vlog_names.proofs.entering.enter_gates.Given as goal

abbrev pub invariant-loop-place : goal.invariant-loop-place
invariant-loop-place l =
    Entered (λ (g : RawGate). target_name g.target) 5 l.gates l.place l.firsts l.initial.found l.found
