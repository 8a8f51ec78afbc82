use Rattle.std.proofs.Common.{List, arith, ap, ◌∙◌}
use Rattle.vlog_text.specs.declared.raw.RawName.{RawName}
use Rattle.vlog_text.specs.Refusing.{earliest, refusals}
use Rattle.vlog_names.specs.Names.{kinds_in}
use Rattle.vlog_names.specs.inner.Steps.{has_fault, when}
use Rattle.vlog_names.specs.inner.Rows.{faulty}
use Rattle.vlog_names.proofs.Noting.{noted_more, name_opens}
use Rattle.vlog_names.proofs.rows.note_names.Goals as goal

pub loop-name-preserved : goal.loop-name-preserved
loop-name-preserved c =
    let fault = c.args.fault in
    let kinds = kinds_in c.args.kinds.now in
    let x = c.name-item.result in
    noted_more (λ (xs : List RawName). faulty fault kinds (xs)) (λ (x : RawName). when (has_fault fault kinds x.word) x)
    (name_opens fault kinds) c.args.rule c.args.names.now c.loop-name.name-index x c.loop-name.found
    c.note_if-found.result
    (omega arith) c.name-item.is (c.note_if-found.ensures
    ∙ ap (λ b. earliest c.loop-name.found (refusals c.args.rule (when b x))) c.has_fault.ensures)
    ∙ c.loop-name.invariant
