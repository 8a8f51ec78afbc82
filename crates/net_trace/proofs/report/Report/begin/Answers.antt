use Rattle.std.proofs.Common.{refl, []}
use Rattle.net_trace.proofs.ShowLemmas.{due_shown, due_cut, row_0_due}
use Rattle.net_trace.proofs.report.Report.begin.Goals as goal

pub returns-clause-ok : goal.returns-clause-ok
returns-clause-ok g c = λ net fresh.
    due_shown net _ _ _ [] _ c.show.new.self c.show.result
    (row_0_due net c.args.self.now _ _ fresh c.step.ensures.steps.net
    refl refl (c.simulation.ensures.first c.args.self.now.sim c.step.new.self fresh.fresh c.step.ensures.steps))
    c.show.ensures

pub returns-clause-err : goal.returns-clause-err
returns-clause-err g c = λ net fresh.
    due_cut net _ _ _ [] _ c.show.new.self c.show.result
    (row_0_due net c.args.self.now _ _ fresh c.step.ensures.steps.net
    refl refl (c.simulation.ensures.first c.args.self.now.sim c.step.new.self fresh.fresh c.step.ensures.steps))
    c.show.ensures
