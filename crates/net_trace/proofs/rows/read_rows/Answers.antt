use Rattle.std.proofs.Common.{Ok, ap, ◌∙◌, arith}
use Rattle.net_trace.specs.inner.Steps.{GoesOnReading}
use Rattle.net_trace.proofs.StandLemmas.{done_ends}
use Rattle.net_trace.proofs.rows.read_rows.Goals as goal

pub loop-fail-smaller : goal.loop-fail-smaller
loop-fail-smaller g c =
    let more : GoesOnReading c.loop-fail.reader c.read_piece.new.reader c.read_piece.new.report =
    c.read_piece.ensures.goes_on (c.in-Ok-More.is ∙ ap Ok c.in-Ok-More.field-0-is) in
    let used = more.used in
    let within = more.within in
    omega arith

pub returns-in-Ok-Done-clause-ends : goal.returns-in-Ok-Done-clause-ends
returns-in-Ok-Done-clause-ends g c = λ net before first st.
    done_ends net before _ first _ c.read_piece.new.reader c.read_piece.new.report c.in-Ok-Done.field-0
    c.in-Ok-Done.field-0-is
    (c.in-Ok-Done.ensures.advances net before first (c.loop-fail.invariant.stands net before first st))

pub returns-in-Err-clause-ends : goal.returns-in-Err-clause-ends
returns-in-Err-clause-ends g c = λ net before first st.
    c.in-Err.ensures.advances net before first (c.loop-fail.invariant.stands net before first st)
