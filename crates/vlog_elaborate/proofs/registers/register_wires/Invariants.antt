use Rattle.std.proofs.Common.{◌≡◌, map, filter, take}
use Rattle.vlog_text.specs.declared.raw.RawDecl.{RawDecl}
use Rattle.vlog_text.specs.Standing.{is_reg, register_wire}
use Rattle.vlog_elaborate.proofs.registers.register_wires.Given as goal

abbrev pub invariant-loop-decl : goal.invariant-loop-decl
invariant-loop-decl l =
    l.wires ≡ map (λ (d : RawDecl). register_wire l.raw d.name)
    (filter (λ (d : RawDecl). is_reg d.kind) (take l.decl-index l.decl-items))
