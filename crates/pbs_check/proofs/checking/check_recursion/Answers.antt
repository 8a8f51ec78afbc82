use Rattle.pbs_check.proofs.checking.check_recursion.Goals as goal
use Rattle.pbs_check.proofs.CheckLemmas.{none_5, least_8, step_to, known_after}
use Rattle.pbs_check.proofs.LawLemmas.{different_prods}
use Rattle.pbs_check.proofs.RecursionLemmas.{are_first}

pub settle-requires : goal.settle-requires
settle-requires c = are_first c.args.spec.now (none_5 c.args.spec.now c.requires.kept)

pub rule_8-requires-clause-different : goal.rule_8-requires-clause-different
rule_8-requires-clause-different c = different_prods c.args.spec.now (none_5 c.args.spec.now c.requires.kept)

pub rule_8-requires-clause-first : goal.rule_8-requires-clause-first
rule_8-requires-clause-first c = are_first c.args.spec.now (none_5 c.args.spec.now c.requires.kept)

pub returns-clause-checked : goal.returns-clause-checked
returns-clause-checked c =
    step_to c.args.spec.now 8 c.in_ok-rule_8.field-0 c.refuse.result c.requires.kept
    (least_8 c.args.spec.now c.in_ok-rule_8.field-0 c.in_ok-rule_8.ensures) c.refuse.ensures

pub returns-clause-known : goal.returns-clause-known
returns-clause-known c =
    known_after c.args.spec.now _ c.in_ok-rule_8.field-0 c.refuse.result c.requires.kept c.in_ok-rule_8.ensures
    c.refuse.ensures c.in_ok-tables.ensures.settles c.in_ok-tables.ensures.stuck
