use Rattle.std.proofs.Common.{Ok, Err}
use Rattle.pbs_expand.specs.Expanded.{Gives}
use Rattle.pbs_expand.specs.declared.fail.Expand.TheVariants as expands
use Rattle.pbs_engine.proofs.FrontLemmas.{is_ready, too_large}
use Rattle.pbs_engine.proofs.front.expand_checked.Goals as goal

pub expand-requires : goal.expand-requires
expand-requires c =
    is_ready c.args.spec (c.within_limits.ensures.inputs c.args.spec c.requires.unbroken)
    (c.within_limits.ensures.actions c.args.spec c.requires.unbroken) c.requires.unbroken

pub returns-in-Err-Refused : goal.returns-in-Err-Refused
returns-in-Err-Refused c =
    let gives : Gives c.args.spec (Err (expands.Refused c.in-Err-Refused.refusal)) =
    rw c.in-Err-Refused.field-0-is at c.in-Err-Refused.ensures.exact in
    rw c.in-Err-Refused.field-0-is
    (too_large c.args.text.now c.args.spec c.in-Err-Refused.refusal c.requires.read
    ((c.same_rules.ensures.answer c.args.spec (Ok tt)).0 c.requires.unbroken)
    ((c.same_expansion.ensures.answer c.args.spec (Err (expands.Refused c.in-Err-Refused.refusal))).0 gives))

pub check_expanded-requires-clause-unbroken : goal.check_expanded-requires-clause-unbroken
check_expanded-requires-clause-unbroken c = (c.same_rules.ensures.answer c.args.spec (Ok tt)).0 c.requires.unbroken

pub check_expanded-requires-clause-within : goal.check_expanded-requires-clause-within
check_expanded-requires-clause-within c =
    ((c.same_expansion.ensures.answer c.args.spec (Ok c.in-Ok.main)).0 c.in-Ok.ensures.exact).0

pub check_expanded-requires-clause-tree : goal.check_expanded-requires-clause-tree
check_expanded-requires-clause-tree c =
    ((c.same_expansion.ensures.answer c.args.spec (Ok c.in-Ok.main)).0 c.in-Ok.ensures.exact).1
