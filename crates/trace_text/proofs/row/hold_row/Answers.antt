use Rattle.std.proofs.Common.{◌∙◌, Some, Bor, List, ℕ, sym, ap, arith}
use Rattle.trace_text.specs.Reports.{is_on}
use Rattle.trace_text.proofs.ReportLemmas.{number_held, number_unheld, name_passed, name_held, name_unheld, line_ended}
use Rattle.trace_text.proofs.row.hold_row.Goals as goal
use Rattle.trace_text.proofs.row.hold_row.Goals.{then-any, else-any}

pub returns-in_default : goal.returns-in_default
returns-in_default g c = number_unheld _ _ c.args.names.now c.args.row (is_on c.args.on) _ _ _ _ _
    (c.as_bytes.ensures.value ∙ c.format.ensures.text) c.in_default.ensures

pub loop-n-init : goal.loop-n-init
loop-n-init g c = number_held _ _ _ _ _ _ _ _ _ (c.as_bytes.ensures.value ∙ c.format.ensures.text) c.in-Ok.ensures

pub loop-n-preserved-then-not-bit : goal.loop-n-preserved-then-not-bit
loop-n-preserved-then-not-bit g c = name_passed _ _ _ _ _ _ _ _ _ c.loop-n.invariant
    (omega (arith, c.loop-n-test.true, c.len-n-end.ensures.count)) (sym c.if-not-bit.ensures)

pub returns-in_default-write_both : goal.returns-in_default-write_both
returns-in_default-write_both g c =
    name_unheld _ _ _ _ _ _ _ _ c.bytes.result.now _ _ _ _ _ c.loop-n.invariant (sym c.in-Some.ensures.value
    ∙ ap Some (sym c.bytes.ensures)) (sym c.if-not-bit.ensures) c.in_default-write_both.ensures

pub loop-n-preserved : goal.loop-n-preserved
loop-n-preserved g c =
    name_held _ _ _ _ _ _ _ _ c.bytes.result.now _ _ _ _ c.loop-n.invariant (sym c.in-Some.ensures.value
    ∙ ap Some (sym c.bytes.ensures)) (sym c.if-not-bit.ensures) c.in-Ok-write_both.ensures

pub returns : goal.returns
returns g c =
    line_ended _ _ _ _ _ _ _ _ _ _ _ _ c.write-2.result c.loop-n.invariant
    (omega (arith, c.loop-n-test.false, c.len-n-end.ensures.count))
    (elim c.if-any.branch [
      | then-any w ↦ rw w.if-any.true (ap (λ (b : Bor (List ℕ)). b.now) (sym w.write-is))
      | else-any w ↦ rw w.if-any.false (ap (λ (b : Bor (List ℕ)). b.now) (sym w.write-is))
    ])
    c.write-2.ensures
