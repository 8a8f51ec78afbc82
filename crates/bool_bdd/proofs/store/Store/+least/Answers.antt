use Rattle.bool_bdd.proofs.Leasts.{constant_false, constant_true, joined_least}
use Rattle.bool_bdd.proofs.store.Store.+least.Goals as goal

pub returns-in-Leaf-true : goal.returns-in-Leaf-true
returns-in-Leaf-true t c = constant_true c.args.self.now c.args.a _ c.in-Leaf-true.is c.in-Leaf-true.field-0-test

pub returns-in-Leaf-false : goal.returns-in-Leaf-false
returns-in-Leaf-false t c = constant_false c.args.self.now c.args.a _ c.in-Leaf-false.is c.in-Leaf-false.field-0-test

pub returns-in-None : goal.returns-in-None
returns-in-None t c =
    rw (c.smaller.ensures, c.with_set.ensures)
    (joined_least c.args.self.now c.level-variable.result c.args.a c.level-variable.ensures.diagram c.requires
    c.least-low.result c.least-high.result
    (rw c.side.ensures.value at c.side.ensures.after)
    (rw c.side-in-None.ensures.value at c.side-in-None.ensures.after)
    (rw c.side.ensures.value at c.least-low.ensures)
    (rw c.side-in-None.ensures.value at c.least-high.ensures))
