use Rattle.std.proofs.Common.{subst, sym}
use Rattle.pbs_engine.specs.Accepted.{Checks}
use Rattle.pbs_engine.proofs.FrontLemmas.{accepted_checks, failed_checks}
use Rattle.pbs_engine.proofs.front.check.Goals as goal
use Rattle.pbs_engine.proofs.front.check.Goals.{in-Ok, in-Err}

pub returns : goal.returns
returns c = elim c.match-accept.branch [
  | in-Ok w ↦ subst (Checks c.args.text.now) (sym w.result-is)
      (accepted_checks c.args.text.now w.in-Ok.field-0 w.in-Ok.ensures)
  | in-Err w ↦ subst (Checks c.args.text.now) (sym w.result-is)
      (failed_checks c.args.text.now w.in-Err.fail w.in-Err.ensures)
]
