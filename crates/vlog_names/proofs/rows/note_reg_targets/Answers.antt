use Rattle.std.proofs.Common.{map, List, arith, ap, ◌∙◌}
use Rattle.vlog_text.specs.declared.raw.RawReg.{RawReg}
use Rattle.vlog_text.specs.Refusing.{earliest, refusals}
use Rattle.vlog_names.specs.Names.{kinds_in}
use Rattle.vlog_names.specs.inner.Steps.{has_fault, when}
use Rattle.vlog_names.specs.inner.Rows.{faulty}
use Rattle.vlog_names.proofs.Noting.{noted_more, reg_opens}
use Rattle.vlog_names.proofs.rows.note_reg_targets.Goals as goal

pub loop-reg-preserved : goal.loop-reg-preserved
loop-reg-preserved c =
    let fault = c.args.fault in
    let kinds = kinds_in c.args.kinds.now in
    let x = c.reg-item.result in
    noted_more (λ (xs : List RawReg). faulty fault kinds (map (λ (r : RawReg). r.target) (xs)))
    (λ (r : RawReg). when (has_fault fault kinds r.target.word) r.target)
    (reg_opens fault kinds) c.args.rule c.args.regs.now c.loop-reg.reg-index x c.loop-reg.found c.note_if-found.result
    (omega arith) c.reg-item.is (c.note_if-found.ensures
    ∙ ap (λ b. earliest c.loop-reg.found (refusals c.args.rule (when b x.target))) c.has_fault.ensures)
    ∙ c.loop-reg.invariant
