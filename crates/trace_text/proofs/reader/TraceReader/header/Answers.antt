use Rattle.std.proofs.Common.{ap, ◌∙◌}
use Rattle.trace_text.specs.declared.answers.Head.TheVariants.{Refused}
use Rattle.trace_text.proofs.HeaderLemmas.{header_ended, long_line}
use Rattle.trace_text.proofs.reader.TraceReader.header.Goals as goal

pub returns-then-front-room : goal.returns-then-front-room
returns-then-front-room c =
    long_line _ _ _ c.args.last _ _ _ c.room.ensures.begun c.room.ensures.room c.if-front-room.true
    c.front_length-front.ensures c.if-front-piece.false
    (c.refuse_header.ensures.head ∙ ap Refused c.refusal_of.ensures) c.refuse_header.ensures.new

pub returns : goal.returns
returns c =
    header_ended _ _ _ _ c.args.last _ _ _ c.room.ensures.begun c.room.ensures.room c.if-front-room.false
    c.front_length-front.ensures c.if-front-piece.false
    c.in_ok-extend.ensures c.in_ok-end_header.ensures
