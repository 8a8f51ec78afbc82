use Rattle.std.proofs.Common.{refl}
use Rattle.net_trace.proofs.ShowLemmas.{line_shown}
use Rattle.net_trace.proofs.report.Report.show.Goals as goal

pub returns : goal.returns
returns g c = record {
  sim = refl;
  rows = refl;
  held = line_shown c.args.self.now.sim _ _ c.args.self.now.names _ _ c.args.self.now.rows c.outputs_on-on.result
      c.len.result c.hold_row.result c.args.self.now.named c.len.ensures.count c.outputs_on-on.ensures
      c.hold_row.ensures;
}
