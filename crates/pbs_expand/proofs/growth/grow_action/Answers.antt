use Rattle.std.proofs.Common.{arith}
use Rattle.pbs_names.specs.Naming.{action_names}
use Rattle.pbs_names.proofs.NameLemmas.{number_below}
use Rattle.pbs_expand.proofs.growth.grow_action.Goals as goal

pub overflow_cast-number : goal.overflow_cast-number
overflow_cast-number c =
    let below = number_below (action_names c.args.spec.now.actions) c.args.index.now.actions c.args.name.now
    c.find.result c.in-Some.number 64 c.requires.index.actions c.find.ensures c.in-Some.is
    c.requires.index.few_actions in
    omega (arith, below)
