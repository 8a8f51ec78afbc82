use Rattle.std.proofs.Common.{drop}
use Rattle.pbs_names.proofs.NameLemmas.{IsAtBus}
use Rattle.pbs_names.proofs.buses.find_bus.Given as goal

abbrev pub invariant-loop-decl : goal.invariant-loop-decl
invariant-loop-decl l = IsAtBus l.inputs (drop l.decl-index l.decl-items) l.start l.name
