use Rattle.std.proofs.lemmas.Result.{IfOk-weaker}
use Rattle.bool_bdd.proofs.Meaning.{keeps_grown}
use Rattle.bool_bdd.proofs.Answering.{chosen_for, means_and}
use Rattle.bool_bdd.proofs.store.Store.and.Goals as goal

pub returns-clause-keeps : goal.returns-clause-keeps
returns-clause-keeps c = keeps_grown c.args.self.now c.choose.new.self c.choose.ensures.was c.choose.ensures.grows

pub returns-clause-stands : goal.returns-clause-stands
returns-clause-stands c =
    IfOk-weaker c.choose.result _ _
    (λ n p. chosen_for c.args.self.now c.choose.new.self _ n _ c.choose.ensures.was c.choose.ensures.grows
    (record { test = c.requires.first; if_true = c.requires.second; if_false = tt })
    (means_and c.args.self.now c.args.a c.args.b) p)
    c.choose.ensures.chosen
