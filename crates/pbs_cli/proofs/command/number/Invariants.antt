use Rattle.std.proofs.Common.{◌≡◌, ◌≤◌}
use Rattle.pbs_cli.specs.Words.{number_up_to}
use Rattle.pbs_cli.proofs.command.number.Given as goal

abbrev pub decreases-loop-n : goal.decreases-loop-n
decreases-loop-n l = l.n

abbrev pub invariant-loop-n : goal.invariant-loop-n
invariant-loop-n l = (number_up_to 1000 l.digits ≡ number_up_to l.n l.digits) × (l.n ≤ 1000)
