use Rattle.pbs_check.proofs.LearnLemmas.{LearnsTo}
use Rattle.pbs_check.proofs.settling.learn_all.Given as goal

abbrev pub invariant-loop-prod : goal.invariant-loop-prod
invariant-loop-prod l = LearnsTo l.prods l.prod-index l.initial.known l.known l.learnt
