use Rattle.std.proofs.Common.{◌++◌, take, Ok, Err}
use Rattle.net_trace.proofs.TextLemmas.{read_on}
use Rattle.net_trace.proofs.StandLemmas.{finished_standing, flush_failed, piece_done, piece_failed, reading_stopped}
use Rattle.net_trace.proofs.StandLemmas.{taken_more, within_room}
use Rattle.net_trace.proofs.rows.read_piece.Goals as goal

pub returns-in_default-clause-advances : goal.returns-in_default-clause-advances
returns-in_default-clause-advances g c = λ net before first st.
    flush_failed net before _ first _ c.args.reader.now c.args.report.now _ st
    (c.bytes_used-room.ensures.row c.requires.phase) (c.in_default.ensures.err net before st.entries st.shown)

pub returns-in_default-read_front-clause-advances : goal.returns-in_default-read_front-clause-advances
returns-in_default-read_front-clause-advances g c = λ net before first st.
    reading_stopped net before _ first _ _ c.args.reader.now c.args.report.now _ st
    (c.bytes_used-room.ensures.row c.requires.phase) c.in_default-read_front.ensures.reads.kept
    (c.in-Ok.ensures.whole net before st.entries st.shown)

pub returns-in-Ok-finish-clause-advances : goal.returns-in-Ok-finish-clause-advances
returns-in-Ok-finish-clause-advances g c = λ net before first st.
    finished_standing net before _ first _ _ c.read_front.new.piece c.in-Ok-read_front.n c.args.reader.now
    c.args.report.now _ (Ok c.in-Ok-finish.field-0) st (c.bytes_used-room.ensures.row c.requires.phase)
    c.in-Ok-read_front.ensures.reads c.if-n-eq0.true
    (λ all. c.in-Ok-finish.ensures.finishes net before st.done st.entries all
    (c.in-Ok.ensures.ok net before st.entries st.shown))

pub returns-in-Err-clause-advances : goal.returns-in-Err-clause-advances
returns-in-Err-clause-advances g c = λ net before first st.
    finished_standing net before _ first _ _ c.read_front.new.piece c.in-Ok-read_front.n c.args.reader.now
    c.args.report.now _ (Err c.in-Err.fail) st (c.bytes_used-room.ensures.row c.requires.phase)
    c.in-Ok-read_front.ensures.reads c.if-n-eq0.true
    (λ all. c.in-Err.ensures.finishes net before st.done st.entries all
    (c.in-Ok.ensures.ok net before st.entries st.shown))

pub returns-in-Ok-write_piece-clause-advances : goal.returns-in-Ok-write_piece-clause-advances
returns-in-Ok-write_piece-clause-advances g c = λ net before first st.
    let piece = take c.in-Ok-read_front.n c.read_front.new.piece in
    piece_done net before _ first _ c.write_piece.new.reader (st.done ++ piece) c.write_piece.new.report
    (taken_more first _ _ st.done piece st.taken c.in-Ok-read_front.ensures.reads.moved)
    (c.in-Ok-write_piece.ensures.ends net before st.done st.entries
    (read_on net.inputs c.args.reader.now st.done piece st.entries st.read)
    (c.in-Ok.ensures.ok net before st.entries st.shown))

pub returns-in-Err-write_piece-clause-advances : goal.returns-in-Err-write_piece-clause-advances
returns-in-Err-write_piece-clause-advances g c = λ net before first st.
    let piece = take c.in-Ok-read_front.n c.read_front.new.piece in
    let ends = c.in-Err-write_piece.ensures.ends net before st.done st.entries
    (read_on net.inputs c.args.reader.now st.done piece st.entries st.read)
    (c.in-Ok.ensures.ok net before st.entries st.shown) in
    piece_failed net before _ first _ (st.done ++ piece) c.in-Err-write_piece.fail
    (taken_more first _ _ st.done piece st.taken c.in-Ok-read_front.ensures.reads.moved)
    (within_room net c.args.reader.now st.done st.entries c.read_front.new.piece c.in-Ok-read_front.n
    c.bytes_used-room.result st.read (c.bytes_used-room.ensures.row c.requires.phase) c.bytes_used-room.ensures.value
    c.in-Ok-read_front.ensures.at_most) ends.0 ends.1
