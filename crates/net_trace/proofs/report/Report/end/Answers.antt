use Rattle.net_trace.proofs.ShowLemmas.{end_cut, ended_whole, ended_cut}
use Rattle.net_trace.proofs.report.Report.end.Goals as goal

pub returns-in_default-clause-err : goal.returns-in_default-clause-err
returns-in_default-clause-err g c = λ net before entries shown.
    end_cut net before _ _ entries c.args.self.now _ c.in_default.field-0 shown c.in_default.ensures

pub returns-clause-ok : goal.returns-clause-ok
returns-clause-ok g c = λ net before entries shown.
    ended_whole net before _ _ _ entries c.args.self.now _ c.in-Ok.field-0 c.flush.result shown c.in-Ok.ensures
    c.flush.ensures.writes

pub returns-clause-err : goal.returns-clause-err
returns-clause-err g c = λ net before entries shown.
    ended_cut net before _ _ _ entries c.args.self.now _ c.in-Ok.field-0 c.flush.result shown c.in-Ok.ensures
    c.flush.ensures.writes
