use Rattle.vlog_names.specs.declared.rows.Fault.TheVariants.{Undeclared}
use Rattle.vlog_names.specs.Names.{kinds_in}
use Rattle.vlog_names.proofs.RuleLemmas.{uses_noted}
use Rattle.vlog_names.proofs.naming.note_undeclared.Goals as goal

pub returns : goal.returns
returns c =
    uses_noted Undeclared (kinds_in c.args.kinds.now) 4 c.args.raw.now c.args.found c.note_names-found.result
    c.note_gate_targets-found.result c.note_reg_targets-found.result c.note_gate_pins-found.result c.note_data.result
    c.as_slice.result.now c.as_slice-2.result.now c.as_slice-4.result.now c.as_slice-3.result.now
    c.as_slice-5.result.now c.as_slice.ensures c.as_slice-2.ensures c.as_slice-3.ensures c.as_slice-4.ensures
    c.as_slice-5.ensures c.note_names-found.ensures c.note_gate_targets-found.ensures c.note_reg_targets-found.ensures
    c.note_gate_pins-found.ensures c.note_data.ensures
