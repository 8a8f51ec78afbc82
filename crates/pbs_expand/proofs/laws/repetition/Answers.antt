use Rattle.pbs_expand.specs.Expanded.{main_walk, nothing_yet}
use Rattle.pbs_expand.proofs.Counted.{none_over}
use Rattle.pbs_expand.proofs.Repetitions.{repetition_made}
use Rattle.pbs_expand.proofs.laws.repetition.Goals as goal

pub returns-clause-body : goal.returns-clause-body
returns-clause-body c = λ spec e body m n room is fits some whole.
    (repetition_made spec e body m n is fits some room whole).whole

pub returns-clause-copies : goal.returns-clause-copies
returns-clause-copies c = λ spec e body m n room c d is fits some whole.
    (repetition_made spec e body m n is fits some room whole).tree c d

pub returns-clause-limits : goal.returns-clause-limits
returns-clause-limits c = λ spec. none_over (main_walk spec) nothing_yet
