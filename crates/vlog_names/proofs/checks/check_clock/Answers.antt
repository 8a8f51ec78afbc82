use Rattle.std.specs.Prelude.{codes}
use Rattle.std.proofs.Common.{◌&&◌, ◌∷◌, [], cond, None, ap, ◌∙◌}
use Rattle.std.specs.Prelude.{filter}
use Rattle.vlog_text.specs.declared.raw.RawName.{RawName}
use Rattle.vlog_text.specs.Words.{operands}
use Rattle.vlog_text.specs.Standing.{is_clock, is_declared, is_input}
use Rattle.vlog_text.specs.Refusing.{earliest, refusals}
use Rattle.vlog_names.specs.declared.kinds.Kinds.{Kinds}
use Rattle.vlog_names.specs.declared.rows.Fault.TheVariants.{Clock}
use Rattle.vlog_names.specs.Names.{kinds_in}
use Rattle.vlog_names.proofs.RuleLemmas.{then_noted, operands_noted}
use Rattle.vlog_names.proofs.checks.check_clock.Goals as goal

pub returns : goal.returns
returns c =
    let raw = c.args.raw.now in
    let kinds = kinds_in c.args.kinds.now in
    then_noted 7 None c.note_missing-found.result c.note_data.result
    (cond (is_declared raw is_input (codes "clk") && is_declared raw is_input (codes "rst")) [] (raw.name ∷ []))
    (filter (λ (n : RawName). is_clock n.word) (operands raw))
    (c.note_missing-found.ensures
    ∙ ap (λ b. earliest None (refusals 7 (cond (b && c.in_ok-has_reset.has_reset) [] (raw.name ∷ []))))
    (c.in_ok-has_clock.ensures ∙ ap (λ (k : Kinds). k.input) (c.requires.knows (codes "clk")))
    ∙ ap (λ b. earliest None (refusals 7 (cond (is_declared raw is_input (codes "clk") && b) [] (raw.name ∷ []))))
    (c.in_ok-has_reset.ensures ∙ ap (λ (k : Kinds). k.input) (c.requires.knows (codes "rst"))))
    (operands_noted Clock kinds 7 c.note_missing-found.result c.note_gate_pins-found.result c.note_data.result
    raw.gates c.as_slice.result.now raw.regs c.as_slice-2.result.now c.as_slice.ensures c.as_slice-2.ensures
    c.note_gate_pins-found.ensures c.note_data.ensures)
