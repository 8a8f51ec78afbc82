use Rattle.pbs_check.proofs.UserLemmas.{UsersTo}
use Rattle.pbs_check.proofs.graph.users_of.Given as goal

abbrev pub invariant-loop-user : goal.invariant-loop-user
invariant-loop-user l = UsersTo l.uses l.user l.users.items
