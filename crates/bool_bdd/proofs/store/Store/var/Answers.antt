use Rattle.bool_bdd.proofs.Meaning.{keeps_grown}
use Rattle.bool_bdd.proofs.Answering.{made_input}
use Rattle.std.proofs.lemmas.Result.{IfOk-weaker}
use Rattle.bool_bdd.proofs.store.Store.var.Goals as goal

pub returns-clause-keeps : goal.returns-clause-keeps
returns-clause-keeps c = keeps_grown c.args.self.now c.make.new.self c.make.ensures.was c.make.ensures.grows

pub returns-clause-stands : goal.returns-clause-stands
returns-clause-stands c =
    IfOk-weaker c.make.result _ _ (λ n p. made_input c.make.new.self c.args.n n p) c.make.ensures.made
