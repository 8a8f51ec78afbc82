use Rattle.std.proofs.lemmas.Result.{err_from_is_err_and}
use Rattle.vlog_read.proofs.Answers.{assembled, unparsed}
use Rattle.vlog_read.proofs.read.read_netlist.Goals as goal

pub returns-in_err-raw : goal.returns-in_err-raw
returns-in_err-raw c =
    let p = err_from_is_err_and c.from_residual.result c.from_residual.ensures.1 in
    rw (p.1, p.2) (unparsed c.args.bytes.now c.in_err-raw.field-0.0 c.in_err-raw.ensures)

pub returns : goal.returns
returns c =
    assembled c.args.bytes.now c.in_ok-raw.raw c.elaborate.result c.in_ok-raw.ensures c.elaborate.ensures
