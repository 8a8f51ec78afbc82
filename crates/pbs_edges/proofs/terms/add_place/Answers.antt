use Rattle.std.proofs.Common.{arith}
use Rattle.pbs_edges.proofs.Tables.{adds_full, adds_place}
use Rattle.pbs_edges.proofs.terms.add_place.Goals as goal

pub returns-then-len-gt-MOST_TERMS-clause-adds : goal.returns-then-len-gt-MOST_TERMS-clause-adds
returns-then-len-gt-MOST_TERMS-clause-adds c = adds_full _ _ c.args.table.now (omega arith)

pub returns-clause-adds : goal.returns-clause-adds
returns-clause-adds c =
    adds_place _ c.in_ok-whole.whole.bytes.items _ c.in_ok-number.number _ _ c.in_ok-whole.ensures.bytes
    c.in_ok-number.ensures.number c.in_ok-number.ensures.codes
    (rw (c.in_ok-push.ensures.ok, c.number_of.ensures.of_place))
