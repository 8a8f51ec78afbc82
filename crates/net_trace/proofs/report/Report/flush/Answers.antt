use Rattle.std.proofs.Common.{refl}
use Rattle.net_trace.proofs.ShowLemmas.{flushed_shown, flushed_whole, flushed_cut}
use Rattle.net_trace.proofs.report.Report.flush.Goals as goal

pub returns-clause-ok : goal.returns-clause-ok
returns-clause-ok g c = λ net before entries shown.
    flushed_shown net before _ _ entries c.args.self.now _ c.flush.result shown c.flush.ensures.writes refl refl
    c.flush.ensures.empty

pub returns-clause-whole : goal.returns-clause-whole
returns-clause-whole g c = λ net before entries shown.
    flushed_whole net before _ _ entries c.args.self.now c.flush.result shown c.flush.ensures.writes

pub returns-clause-err : goal.returns-clause-err
returns-clause-err g c = λ net before entries shown.
    flushed_cut net before _ _ entries c.args.self.now c.flush.result shown c.flush.ensures.writes
