use Rattle.pbs_derive.proofs.Turns.{repeated_turns}
use Rattle.pbs_derive.proofs.laws.bounded_repetition.Goals as goal

pub returns : goal.returns
returns c = repeated_turns
