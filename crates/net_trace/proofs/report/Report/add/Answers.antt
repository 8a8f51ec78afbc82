use Rattle.std.proofs.Common.{refl, ◌++◌, ◌∷◌, []}
use Rattle.net_trace.proofs.ShowLemmas.{due_shown, due_cut, next_due}
use Rattle.net_trace.proofs.report.Report.add.Goals as goal

pub returns-clause-ok : goal.returns-clause-ok
returns-clause-ok g c = λ net before entries shown.
    due_shown net before _ _ (entries ++ c.args.entry ∷ []) _ c.show.new.self c.show.result
    (next_due net before _ entries c.args.entry c.args.self.now _ shown c.step_entry.ensures.net refl refl
    (c.simulation.ensures.later entries c.args.entry c.args.self.now.sim c.step_entry.new.sim shown.stands
    c.step_entry.ensures)) c.show.ensures

pub returns-clause-err : goal.returns-clause-err
returns-clause-err g c = λ net before entries shown.
    due_cut net before _ _ (entries ++ c.args.entry ∷ []) _ c.show.new.self c.show.result
    (next_due net before _ entries c.args.entry c.args.self.now _ shown c.step_entry.ensures.net refl refl
    (c.simulation.ensures.later entries c.args.entry c.args.self.now.sim c.step_entry.new.sim shown.stands
    c.step_entry.ensures)) c.show.ensures
