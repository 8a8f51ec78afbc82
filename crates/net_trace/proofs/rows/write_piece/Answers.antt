use Rattle.std.proofs.Common.{◌<◌, ◌≤◌, ◌++◌, false, length, drop, arith, subst, sym}
use Rattle.std.proofs.lemmas.Bool.Decides.{nat_tests}
use Rattle.trace_text.specs.States.{ReadsRow}
use Rattle.net_trace.proofs.TextLemmas.{more_grows, row_grows}
use Rattle.net_trace.proofs.PieceLemmas.{drop_twice, good_phase, length_left, left_row, piece_empty}
use Rattle.net_trace.proofs.PieceLemmas.{piece_used, row_added, row_cut, row_refused, none_behind, of_rest}
use Rattle.net_trace.proofs.rows.write_piece.Goals as goal

pub returns-in-Refused-clause-ends : goal.returns-in-Refused-clause-ends
returns-in-Refused-clause-ends g c = λ net before done entries read shown.
    row_refused net before _ _ (done ++ c.args.piece.now) (drop c.loop-at.at c.args.piece.now) c.loop-at.reader
    c.next_row-used.new.self c.loop-at.report c.refuse.new.report c.next_row-used.result.0 c.in-Refused.refusal
    c.refuse.result (c.loop-at.invariant.so_far net before done entries read shown)
    (subst (λ row. ReadsRow c.loop-at.reader c.next_row-used.new.self (drop c.loop-at.at c.args.piece.now) false
    c.next_row-used.result.0 row) c.in-Refused.is
    (of_rest _ _ c.loop-at.at c.args.piece.now _ _ c.next_row-used.ensures))
    (c.refuse.ensures.refuses net before)

pub returns-in_default-row : goal.returns-in_default-row
returns-in_default-row g c =
    let at = c.loop-at.at in
    let piece = c.args.piece.now in
    let inv = c.loop-at.invariant in
    let count = inv.count in
    let used = inv.used in
    let left = length_left at piece in
    let some : at < length piece = grind (arith, nat_tests) in
    let reads = left_row c.loop-at.reader c.next_row-used.new.self (drop at piece) c.next_row-used.result.0
    c.next_row-used.result.1 c.in_default.ensures c.in_default-row.not-Refused
    (of_rest _ _ at piece _ _ c.next_row-used.ensures)
    (omega (arith, some, left)) in
    let grows = more_grows _ _ _ _ reads in
    record {
      phase = reads.phase;
      count = omega (arith, count, grows);
      used = omega (arith, used, grows, left, some);
      ends = λ net before done entries read shown.
          piece_used net before _ (done ++ piece) (drop at piece) c.loop-at.reader c.next_row-used.new.self
          c.loop-at.report c.next_row-used.result.0 (inv.so_far net before done entries read shown) reads;
      no_read = λ e. cc;
    }

pub returns-in_default-add-clause-ends : goal.returns-in_default-add-clause-ends
returns-in_default-add-clause-ends g c = λ net before done entries read shown.
    row_cut net before _ _ (done ++ c.args.piece.now) (drop c.loop-at.at c.args.piece.now) c.loop-at.reader
    c.next_row-used.new.self c.loop-at.report c.add.new.self c.next_row-used.result.0 c.next_row-used.result.1
    c.in-Some.entry (c.loop-at.invariant.so_far net before done entries read shown)
    (of_rest _ _ c.loop-at.at c.args.piece.now _ _ c.next_row-used.ensures)
    (sym c.in-Some.ensures) (c.in_default-add.ensures.err net before)

pub loop-at-preserved : goal.loop-at-preserved
loop-at-preserved g c =
    let at = c.loop-at.at in
    let piece = c.args.piece.now in
    let used = c.next_row-used.result.0 in
    let inv = c.loop-at.invariant in
    let count = inv.count in
    let used_is = inv.used in
    let left = length_left at piece in
    let low = inv.within in
    let reads = of_rest _ _ at piece _ _ c.next_row-used.ensures in
    let fits = reads.within in
    let rows = c.add.ensures.rows in
    let grows = row_grows c.loop-at.reader c.next_row-used.new.self (drop at piece) used c.next_row-used.result.1
    c.in-Some.entry reads (sym c.in-Some.ensures) in
    let more = grows.used_is in
    let some = grows.some in
    record {
      phase = good_phase c.loop-at.reader c.next_row-used.new.self (drop at piece) used c.next_row-used.result.1
          c.in-Some.entry reads (sym c.in-Some.ensures);
      count = omega (arith, count, more, some, rows);
      used = omega (arith, used_is, more);
      within = omega (arith, left, low, fits);
      so_far = λ net before done entries read shown.
          drop_twice net before (done ++ piece) at used piece c.next_row-used.new.self c.add.new.self _
          (row_added net before _ _ (done ++ piece) (drop at piece) c.loop-at.reader c.next_row-used.new.self
          c.loop-at.report c.add.new.self used c.next_row-used.result.1 c.in-Some.entry
          (inv.so_far net before done entries read shown) reads (sym c.in-Some.ensures)
          (c.in-Ok.ensures.ok net before));
    }

pub returns-clause-ends : goal.returns-clause-ends
returns-clause-ends g c = λ net before done entries read shown.
    let none : length c.args.piece.now ≤ c.loop-at.at = grind (arith, nat_tests) in
    piece_empty net before _ (done ++ c.args.piece.now) (drop c.loop-at.at c.args.piece.now) c.loop-at.reader
    c.loop-at.report (c.loop-at.invariant.so_far net before done entries read shown)
    (none_behind c.loop-at.at c.args.piece.now none)
