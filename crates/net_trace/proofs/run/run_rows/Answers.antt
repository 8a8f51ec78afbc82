use Rattle.std.proofs.Common.{◌++◌, ◌-◌, [], drop, take, subst}
use Rattle.net_trace.specs.inner.Steps.{Begins}
use Rattle.net_trace.proofs.OpenLemmas.{begin_failed, unused_part}
use Rattle.net_trace.proofs.StandLemmas.{piece_done, piece_failed}
use Rattle.net_trace.proofs.run.run_rows.Goals as goal

pub returns-in_default-clause-ends : goal.returns-in_default-clause-ends
returns-in_default-clause-ends g c = λ net first fresh b.
    begin_failed net _ _ first _ c.args.reader.now _ fresh.runs b (c.in_default.ensures.err net fresh)

pub returns-in-Ok-write_piece-clause-ends : goal.returns-in-Ok-write_piece-clause-ends
returns-in-Ok-write_piece-clause-ends g c = λ net first fresh begun.
    let from = c.args.unused.from in
    let to = c.args.unused.to in
    let piece = take (to - from) (drop from c.args.buffer.now) in
    let b : Begins net first ((g.S.Shelf.state c.args.shelf.now).slots 1).left c.args.reader.now piece =
    subst (λ p. Begins net first ((g.S.Shelf.state c.args.shelf.now).slots 1).left c.args.reader.now p)
    (unused_part from to c.args.buffer.now c.requires.unused.0) begun in
    c.read_rows.ensures.ends net _ first
    (piece_done net _ _ first _ c.write_piece.new.reader (b.done ++ piece) c.write_piece.new.report b.taken.is
    (c.in-Ok-write_piece.ensures.ends net _ b.done [] b.read (c.in-Ok.ensures.ok net fresh)))

pub returns-in-Err-clause-ends : goal.returns-in-Err-clause-ends
returns-in-Err-clause-ends g c = λ net first fresh begun.
    let from = c.args.unused.from in
    let to = c.args.unused.to in
    let piece = take (to - from) (drop from c.args.buffer.now) in
    let b : Begins net first ((g.S.Shelf.state c.args.shelf.now).slots 1).left c.args.reader.now piece =
    subst (λ p. Begins net first ((g.S.Shelf.state c.args.shelf.now).slots 1).left c.args.reader.now p)
    (unused_part from to c.args.buffer.now c.requires.unused.0) begun in
    let ends = c.in-Err.ensures.ends net _ b.done [] b.read (c.in-Ok.ensures.ok net fresh) in
    piece_failed net _ _ first _ (b.done ++ piece) c.in-Err.fail b.taken.is b.taken.few ends.0 ends.1
