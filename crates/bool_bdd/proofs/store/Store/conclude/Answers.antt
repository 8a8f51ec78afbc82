use Rattle.bool_bdd.proofs.Answering.{concluded}
use Rattle.bool_bdd.proofs.store.Store.conclude.Goals as goal

pub keep-requires : goal.keep-requires
keep-requires c =
    concluded c.args.self.now c.make.new.self c.args.asked c.args.branch c.in_ok-node.node c.make.ensures.was
    c.make.ensures.grows
    c.requires.asked c.requires.variable c.requires.low c.requires.high c.in_ok-node.ensures.made
