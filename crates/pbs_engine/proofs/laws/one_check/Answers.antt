use Rattle.pbs_engine.proofs.LawLemmas.{OneEach, one_accepted, accepted_apart, one_broken}
use Rattle.pbs_engine.proofs.laws.one_check.Goals as goal

one_each : goal.After-one_tree_refusal → OneEach
one_each c = record {
  answer = c.one_answer.ensures;
  same = c.one_refusal.ensures.same;
  never = c.one_refusal.ensures.never;
  tree_same = c.one_tree_refusal.ensures.same;
  tree_never = c.one_tree_refusal.ensures.never;
}

pub returns : goal.returns
returns c = record {
  spec = one_accepted (one_each c);
  refusal = one_broken (one_each c);
  apart = accepted_apart (one_each c);
}
