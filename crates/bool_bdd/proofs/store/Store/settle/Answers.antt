use Rattle.bool_bdd.proofs.Answering.{settled}
use Rattle.bool_bdd.proofs.store.Store.settle.Goals as goal
use Rattle.std.proofs.Common.{true, false, ◌∙◌, ap}
use Rattle.bool_bdd.specs.declared.node.Node.TheVariants.{Leaf}

pub returns-then-value-clause-chosen : goal.returns-then-value-clause-chosen
returns-then-value-clause-chosen c =
    settled c.args.self.now c.args.asked true c.requires.asked (c.requires.constant ∙ ap Leaf c.if-value.true)

pub returns-else-value-clause-chosen : goal.returns-else-value-clause-chosen
returns-else-value-clause-chosen c =
    settled c.args.self.now c.args.asked false c.requires.asked (c.requires.constant ∙ ap Leaf c.if-value.false)
