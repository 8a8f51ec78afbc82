use Rattle.pbs_expand.proofs.SameWalks.{same_tree, same_refusal, same_answer}
use Rattle.pbs_expand.proofs.laws.same_expansion.Goals as goal

pub returns-clause-tree : goal.returns-clause-tree
returns-clause-tree c = same_tree

pub returns-clause-refusal : goal.returns-clause-refusal
returns-clause-refusal c = same_refusal

pub returns-clause-answer : goal.returns-clause-answer
returns-clause-answer c = same_answer
