use Rattle.bool_bdd.proofs.Growing.{store_keep_least}
use Rattle.bool_bdd.proofs.store.Store.keep_least.Goals as goal

pub invariant_of-self-2 : goal.invariant_of-self-2
invariant_of-self-2 c =
    store_keep_least c.self.inside.branches.keys _ _ _ c.args.node c.least-answer.result c.self.invariant
    (rw c.self.view_is c.requires) (rw c.self.view_is c.least-answer.ensures) c.in_ok-insert.ensures.updates.0

pub invariant_of-self : goal.invariant_of-self
invariant_of-self c = rw c.in_err-insert.ensures.err c.self.invariant
