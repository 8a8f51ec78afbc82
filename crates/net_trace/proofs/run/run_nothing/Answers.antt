use Rattle.std.proofs.Common.{[]}
use Rattle.net_trace.proofs.OpenLemmas.{begin_cut}
use Rattle.net_trace.proofs.run.run_nothing.Goals as goal

pub returns-in-Ok-clause-finishes : goal.returns-in-Ok-clause-finishes
returns-in-Ok-clause-finishes g c = λ net done fresh all.
    c.finish.ensures.finishes net _ done [] all (c.in-Ok.ensures.ok net fresh)

pub returns-in-Err-clause-finishes : goal.returns-in-Err-clause-finishes
returns-in-Err-clause-finishes g c = λ net done fresh all.
    begin_cut net _ _ c.args.reader.now done fresh.runs all (c.in-Err.ensures.err net fresh)
