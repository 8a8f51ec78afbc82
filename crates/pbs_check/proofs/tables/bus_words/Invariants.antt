use Rattle.std.proofs.Common.{◌≡◌, ◌++◌, drop}
use Rattle.pbs_check.specs.Using.{bus_names}
use Rattle.pbs_check.proofs.tables.bus_words.Given as goal

abbrev pub invariant-loop-decl : goal.invariant-loop-decl
invariant-loop-decl l = l.words.items ++ bus_names (drop l.decl-index l.decl-items) ≡ bus_names l.inputs
