use Rattle.std.proofs.Common.{sym}
use Rattle.pbs_overlap.proofs.Numbers.{number_from}
use Rattle.pbs_overlap.proofs.ranges.range_of.Goals as goal

pub returns-clause-body : goal.returns-clause-body
returns-clause-body c = let t = c.args.body.now in sym (number_from t.span t.number t.kind)

pub returns-clause-trap : goal.returns-clause-trap
returns-clause-trap c = let t = c.args.trap.now in sym (number_from t.span t.number t.kind)

pub returns-clause-after : goal.returns-clause-after
returns-clause-after c = let t = c.args.after.now in sym (number_from t.span t.number t.kind)
