use Rattle.vlog_names.specs.Names.{kinds_in}
use Rattle.vlog_names.specs.inner.Steps.{plain_name}
use Rattle.vlog_names.proofs.Numbering.{Numbered}
use Rattle.vlog_names.proofs.numbers.number_inputs.Given as goal

abbrev pub invariant-loop-name : goal.invariant-loop-name
invariant-loop-name l = Numbered (plain_name (kinds_in l.kinds)) l.ports l.name-index l.firsts l.count
