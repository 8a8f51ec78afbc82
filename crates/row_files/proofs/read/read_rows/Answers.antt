-- The line in hand is one of the text's, since there are as many as were cut.
use Rattle.std.proofs.Common.{arith, ◌≡◌, ◌+◌, ◌<◌, ◌≤◌, length, vec_len}
use Rattle.row_files.specs.Lines.{line_count}
use Rattle.row_files.proofs.read.read_rows.Goals as goal

pub returns-in-Err : goal.returns-in-Err
returns-in-Err c =
    let lines : vec_len c.in-Ok.lines ≡ line_count c.args.text.now = c.in-Ok.ensures in
    let items : length c.deref-line-items.result.now ≡ vec_len c.in-Ok.lines = c.deref-line-items.ensures.len in
    let turn : c.loop-n.n < length c.deref-line-items.result.now = c.loop-n-test.true in
    let within : c.loop-n.n + 1 ≤ line_count c.args.text.now = omega (arith, lines, items, turn) in
    c.at.ensures (line_count c.args.text.now) (omega arith) within

-- The last line is one of the text's, which has at least one.
pub returns-in-Err-end_block : goal.returns-in-Err-end_block
returns-in-Err-end_block c =
    let lines : vec_len c.in-Ok.lines ≡ line_count c.args.text.now = c.in-Ok.ensures in
    let last : c.len.result ≡ vec_len c.in-Ok.lines = c.len.ensures in
    let first : 1 ≤ c.len.result = omega (arith, lines, last) in
    let within : c.len.result ≤ line_count c.args.text.now = omega (arith, lines, last) in
    c.at-in-Err-end_block.ensures (line_count c.args.text.now) first within
