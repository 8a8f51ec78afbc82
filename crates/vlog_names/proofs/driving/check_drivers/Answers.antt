use Rattle.std.proofs.Common.{List, map, Some, subst}
use Rattle.vlog_text.specs.declared.raw.RawGate.{RawGate}
use Rattle.vlog_text.specs.declared.raw.RawReg.{RawReg}
use Rattle.vlog_text.specs.Words.{target_name}
use Rattle.vlog_names.specs.Names.{kinds_in, IsFirsts}
use Rattle.vlog_names.proofs.RuleLemmas.{rule_5_noted}
use Rattle.vlog_names.proofs.driving.check_drivers.Goals as goal

pub returns-clause-found : goal.returns-clause-found
returns-clause-found c =
    rule_5_noted c.args.raw.now (kinds_in c.args.kinds.now) c.requires.knows c.in_ok-gates.gates c.in_ok-regs.regs
    (subst (λ (gs : List RawGate). IsFirsts (map (λ (g : RawGate). target_name g.target) gs) c.in_ok-gates.gates)
    c.as_slice.ensures c.in_ok-gates.ensures.firsts)
    (subst (λ (rs : List RawReg). IsFirsts (map (λ (r : RawReg). Some r.target) rs) c.in_ok-regs.regs)
    c.as_slice-2.ensures c.in_ok-regs.ensures.firsts)
    c.as_slice.result.now c.as_slice-3.result.now c.as_slice-2.result.now
    c.as_slice-4.result.now c.as_slice-5.result.now c.as_slice.ensures c.as_slice-2.ensures c.as_slice-3.ensures
    c.as_slice-4.ensures c.as_slice-5.ensures c.in_ok-gates.found c.in_ok-regs.found c.note_gate_targets-found.result
    c.note_reg_targets-found.result c.note_undriven-found.result c.in_ok-gates.ensures.found
    c.in_ok-regs.ensures.found c.note_gate_targets-found.ensures c.note_reg_targets-found.ensures
    c.note_undriven-found.ensures
