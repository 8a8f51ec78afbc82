use Rattle.std.proofs.Common.{List, arith, ◌∙◌}
use Rattle.std.specs.List.{filter_map}
use Rattle.vlog_text.specs.declared.raw.RawReg.{RawReg}
use Rattle.vlog_text.specs.Words.{pin_name}
use Rattle.vlog_names.specs.Names.{kinds_in}
use Rattle.vlog_names.specs.inner.Rows.{faulty, named_pin}
use Rattle.vlog_names.proofs.Noting.{noted_more, data_opens}
use Rattle.vlog_names.proofs.rows.note_data.Goals as goal

pub loop-reg-preserved : goal.loop-reg-preserved
loop-reg-preserved c =
    let fault = c.args.fault in
    let kinds = kinds_in c.args.kinds.now in
    let x = c.reg-item.result in
    noted_more (λ (xs : List RawReg). faulty fault kinds (filter_map (λ (r : RawReg). pin_name r.wire) (xs)))
    (λ (r : RawReg). faulty fault kinds (named_pin r.wire))
    (data_opens fault kinds) c.args.rule c.args.regs.now c.loop-reg.reg-index x c.loop-reg.found c.note_pin-found.result
    (omega arith) c.reg-item.is c.note_pin-found.ensures
    ∙ c.loop-reg.invariant
