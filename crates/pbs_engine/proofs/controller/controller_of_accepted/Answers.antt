use Rattle.pbs_engine.proofs.ControllerLemmas.{no_scope_breaks, is_controller}
use Rattle.pbs_engine.proofs.controller.controller_of_accepted.Goals as goal

pub realize-requires-clause-unbroken : goal.realize-requires-clause-unbroken
realize-requires-clause-unbroken c = c.requires.accepted.unbroken

pub realize-requires-clause-within : goal.realize-requires-clause-within
realize-requires-clause-within c = c.requires.accepted.within

pub realize-requires-clause-names : goal.realize-requires-clause-names
realize-requires-clause-names c = c.requires.names

pub realize-requires-clause-tree : goal.realize-requires-clause-tree
realize-requires-clause-tree c = c.requires.tree

pub realize-requires-clause-scopes : goal.realize-requires-clause-scopes
realize-requires-clause-scopes c = no_scope_breaks c.args.text.now c.args.accepted.now c.requires

pub returns-in-Ok : goal.returns-in-Ok
returns-in-Ok c =
    is_controller c.args.text.now c.args.accepted.now c.in-Ok.made c.requires c.in-Ok.ensures.realizes
    c.in-Ok.ensures.stands
