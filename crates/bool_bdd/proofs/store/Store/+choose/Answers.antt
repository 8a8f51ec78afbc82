use Rattle.std.proofs.Common.{true, false}
use Rattle.bool_bdd.proofs.Answering.{sides_chosen_grown, sides_grown, asked_grown}
use Rattle.bool_bdd.proofs.store.Store.+choose.Goals as goal

pub conclude-requires-clause-low : goal.conclude-requires-clause-low
conclude-requires-clause-low t c =
    sides_chosen_grown c.args.self.now c.choose.new.self c.choose-in-Ok.new.self c.first-variable.result false
    c.args.asked c.in-Ok.low
    c.choose.ensures.diagram c.choose.ensures.grows c.choose-in-Ok.ensures.grows c.requires
    (rw (← c.sides-unset.ensures.value) c.in-Ok.ensures.chosen)

pub conclude-requires-clause-high : goal.conclude-requires-clause-high
conclude-requires-clause-high t c =
    let asked = asked_grown c.args.self.now c.choose.new.self c.args.asked c.choose.ensures.grows c.requires in
    let same =
    sides_grown c.choose.new.self c.choose-in-Ok.new.self c.first-variable.result true c.args.asked
    c.choose-in-Ok.ensures.grows asked in
    rw (same, ← c.sides-set.ensures.value) c.in-Ok-choose.ensures.chosen
