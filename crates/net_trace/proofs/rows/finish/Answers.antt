use Rattle.std.proofs.Common.{◌++◌, ◌∷◌, [], true, sym, subst}
use Rattle.trace_text.specs.States.{ReadsRow}
use Rattle.net_trace.proofs.FinishLemmas.{finish_refused, finish_end, finish_row, finish_cut}
use Rattle.net_trace.proofs.rows.finish.Goals as goal

pub returns-in-Refused-clause-finishes : goal.returns-in-Refused-clause-finishes
returns-in-Refused-clause-finishes g c = λ net before done entries all shown.
    finish_refused net before _ _ c.args.reader.now c.next_row-row.new.self done c.next_row-row.result.0 entries
    c.args.report.now c.in-Refused.refusal c.refuse.result all shown
    (subst (λ row. ReadsRow c.args.reader.now c.next_row-row.new.self [] true c.next_row-row.result.0 row)
    c.in-Refused.is c.next_row-row.ensures) (c.refuse.ensures.refuses net before entries shown)

pub returns-in_default-row-clause-finishes : goal.returns-in_default-row-clause-finishes
returns-in_default-row-clause-finishes g c = λ net before done entries all shown.
    finish_end net before _ _ c.args.reader.now c.next_row-row.new.self done c.next_row-row.result.0 entries
    c.args.report.now c.next_row-row.result.1 c.end.result all shown c.next_row-row.ensures c.in_default.ensures
    c.in_default-row.not-Refused (c.end.ensures.ends net before entries shown)

pub returns-in-Ok-clause-finishes : goal.returns-in-Ok-clause-finishes
returns-in-Ok-clause-finishes g c = λ net before done entries all shown.
    finish_row net before _ _ c.args.reader.now c.next_row-row.new.self done c.next_row-row.result.0 entries
    c.args.report.now c.next_row-row.result.1 c.in-Some.entry c.end-in-Ok.result all shown c.next_row-row.ensures
    (sym c.in-Some.ensures)
    (c.end-in-Ok.ensures.ends net before (entries ++ c.in-Some.entry ∷ [])
    (c.in-Ok.ensures.ok net before entries shown))

pub returns-in-Err-clause-finishes : goal.returns-in-Err-clause-finishes
returns-in-Err-clause-finishes g c = λ net before done entries all shown.
    finish_cut net before _ _ c.args.reader.now c.next_row-row.new.self done c.next_row-row.result.0 entries
    c.args.report.now c.next_row-row.result.1 c.in-Some.entry all shown c.next_row-row.ensures (sym c.in-Some.ensures)
    (c.in-Err.ensures.err net before entries shown)
