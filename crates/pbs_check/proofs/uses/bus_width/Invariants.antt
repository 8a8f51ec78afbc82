use Rattle.std.proofs.Common.{◌≡◌, drop}
use Rattle.pbs_check.specs.inner.Walking.{bus_width}
use Rattle.pbs_check.proofs.uses.bus_width.Given as goal

abbrev pub invariant-loop-decl : goal.invariant-loop-decl
invariant-loop-decl l = bus_width (drop l.decl-index l.decl-items) l.name ≡ bus_width l.inputs l.name
