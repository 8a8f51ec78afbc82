use Rattle.net_tidy.proofs.Running.{rows_match}
use Rattle.net_tidy.proofs.laws.runs_match.Goals as goal

pub returns : goal.returns
returns c = rows_match
