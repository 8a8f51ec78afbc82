use Rattle.std.proofs.Common.{sym}
use Rattle.trace_text.proofs.TakeLemmas.{takes_long, takes_more, takes_end, takes_wrong, wanted_short}
use Rattle.trace_text.proofs.reader.TraceReader.take.Goals as goal

pub returns-then-used-eq-LIMIT : goal.returns-then-used-eq-LIMIT
returns-then-used-eq-LIMIT c = takes_long _ _ _ _ _ c.used-used.ensures.value c.used-used.ensures.begun
    c.if-used-eq-LIMIT.true c.refuse.ensures.row c.refuse.ensures.new

pub keep-requires-clause-short : goal.keep-requires-clause-short
keep-requires-clause-short c = wanted_short _ _ c.used-used.ensures.begun c.if-wants.ensures

pub returns-then-wants : goal.returns-then-wants
returns-then-wants c = takes_more _ _ _ _ c.used-used.ensures.begun c.if-wants.ensures c.keep.ensures.row
    c.keep.ensures.new

pub returns-then-byte-ne10 : goal.returns-then-byte-ne10
returns-then-byte-ne10 c = takes_wrong _ _ _ _ _ c.used-used.ensures.value c.used-used.ensures.begun
    c.if-used-eq-LIMIT.false c.if-wants.ensures (λ e. absurd (c.if-byte-ne10.true e))
    c.refuse-then-byte-ne10.ensures.row c.refuse-then-byte-ne10.ensures.new

pub returns-then-is_whole : goal.returns-then-is_whole
returns-then-is_whole c = takes_end _ _ _ _ _ c.used-used.ensures.value c.used-used.ensures.begun
    c.if-used-eq-LIMIT.false c.if-byte-ne10.false (sym c.if-is_whole.ensures) c.end_row.ensures.row
    c.end_row.ensures.new

pub returns-else-is_whole : goal.returns-else-is_whole
returns-else-is_whole c = takes_wrong _ _ _ _ _ c.used-used.ensures.value c.used-used.ensures.begun
    c.if-used-eq-LIMIT.false c.if-wants.ensures (λ e. sym c.if-is_whole.ensures) c.refuse-else-is_whole.ensures.row
    c.refuse-else-is_whole.ensures.new
