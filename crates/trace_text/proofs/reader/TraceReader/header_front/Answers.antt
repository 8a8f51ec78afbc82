use Rattle.std.proofs.Common.{ap, ◌∙◌}
use Rattle.trace_text.specs.declared.answers.Head.TheVariants.{Refused}
use Rattle.trace_text.proofs.HeaderLemmas.{header_last, header_more, long_front}
use Rattle.trace_text.proofs.reader.TraceReader.header_front.Goals as goal

pub returns-then-piece-room : goal.returns-then-piece-room
returns-then-piece-room c =
    long_front _ _ _ c.args.last _ _ c.room.ensures.begun c.room.ensures.room c.if-piece-room.true c.requires.open_line
    (c.refuse_header.ensures.head ∙ ap Refused c.refusal_of.ensures) c.refuse_header.ensures.new

pub returns-in_ok-end_header : goal.returns-in_ok-end_header
returns-in_ok-end_header c =
    header_last _ _ _ _ _ _ _ c.room.ensures.begun c.room.ensures.room c.if-piece-room.false c.requires.open_line
    c.if-last.true
    c.in_ok-extend.ensures c.in_ok-end_header.ensures

pub returns-else-last : goal.returns-else-last
returns-else-last c =
    header_more _ _ _ _ _ c.room.ensures.begun c.room.ensures.room c.if-piece-room.false c.requires.open_line
    c.if-last.false
    c.in_ok-extend.ensures
