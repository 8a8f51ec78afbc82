use Rattle.std.proofs.Common.{List, map, filter, ap, ◌∙◌, arith}
use Rattle.vlog_text.specs.declared.raw.RawDecl.{RawDecl}
use Rattle.vlog_text.specs.Standing.{is_reg, register_wire}
use Rattle.vlog_elaborate.proofs.Picking.{picked_more, picked_all}
use Rattle.vlog_elaborate.proofs.Parts.{map_both}
use Rattle.vlog_elaborate.proofs.registers.register_wires.Goals as goal

pub loop-decl-preserved : goal.loop-decl-preserved
loop-decl-preserved c =
    picked_more (λ (d : RawDecl). is_reg d.kind) (λ (d : RawDecl). register_wire c.args.raw.now d.name)
    c.as_slice-decl-items.result.now c.loop-decl.decl-index c.decl-item.result c.loop-decl.wires
    c.add_register.new.wires (omega arith) c.decl-item.is c.loop-decl.invariant c.in_ok-add_register.ensures

pub returns : goal.returns
returns c =
    let raw = c.args.raw.now in
    let decls = c.as_slice-decl-items.result.now in
    c.loop-decl.invariant
    ∙ picked_all (λ (d : RawDecl). is_reg d.kind) (λ (d : RawDecl). register_wire raw d.name) decls
    c.loop-decl.decl-index (omega arith)
    ∙ ap (λ (ds : List RawDecl). map (λ (d : RawDecl). register_wire raw d.name)
    (filter (λ (d : RawDecl). is_reg d.kind) ds)) c.as_slice-decl-items.ensures
    ∙ map_both (register_wire raw) (λ (d : RawDecl). d.name) (filter (λ (d : RawDecl). is_reg d.kind) raw.decls)
