use Rattle.std.proofs.Common.{◌∙◌}
use Rattle.vlog_elaborate.proofs.Earliest.{first_of}
use Rattle.vlog_elaborate.proofs.check.check.Goals as goal

pub returns-clause-found : goal.returns-clause-found
returns-clause-found c =
    c.first_of-found.ensures
    ∙ first_of c.args.raw.now c.in_ok-resolved.resolved.by_name c.in_ok-resolved.resolved.by_driver
    c.in_ok-ordered.ordered.late c.in_ok-resolved.resolved.by_clock c.in_ok-resolved.resolved.by_count
    c.in_ok-resolved.ensures.by_name c.in_ok-resolved.ensures.by_driver c.in_ok-ordered.ensures.late
    c.in_ok-resolved.ensures.by_clock c.in_ok-resolved.ensures.by_count
