use Rattle.vlog_names.specs.inner.Steps.{reg_name}
use Rattle.vlog_names.proofs.Numbering.{Numbered}
use Rattle.vlog_names.proofs.numbers.number_registers.Given as goal

abbrev pub invariant-loop-decl : goal.invariant-loop-decl
invariant-loop-decl l = Numbered reg_name l.decls l.decl-index l.firsts l.count
