use Rattle.trace_text.proofs.TakeLemmas.{ends_none, ends_good, ends_short}
use Rattle.trace_text.proofs.reader.TraceReader.finish.Goals as goal

pub returns-then-is_at_start : goal.returns-then-is_at_start
returns-then-is_at_start c = ends_none _ _ _ c.if-is_at_start.ensures c.end.ensures.row c.end.ensures.new

pub returns-then-is_whole : goal.returns-then-is_whole
returns-then-is_whole c = ends_good _ _ _ c.used-used.ensures.begun c.if-is_at_start.ensures c.if-is_whole.ensures
    c.end_row.ensures.row c.end_row.ensures.new

pub returns-else-is_whole : goal.returns-else-is_whole
returns-else-is_whole c = ends_short _ _ _ _ c.used-used.ensures.value c.used-used.ensures.begun
    c.if-is_at_start.ensures c.if-is_whole.ensures c.refuse.ensures.row c.refuse.ensures.new
