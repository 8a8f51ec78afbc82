use Rattle.net_tidy.proofs.Running.{run_followed}
use Rattle.net_tidy.proofs.laws.follows_runs.Goals as goal

pub returns : goal.returns
returns c = run_followed
