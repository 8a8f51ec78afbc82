use Rattle.std.proofs.Common.{List, sym, subst, ◌∙◌}
use Rattle.std.specs.Global.{Vec}
use Rattle.pbs_check.specs.declared.graph.Link.{Link}
use Rattle.pbs_check.specs.Least.{IsLeast}
use Rattle.pbs_check.specs.inner.Links.{HasRecursion}
use Rattle.pbs_check.proofs.NumberLemmas.{closed_uses, uses_size, rule_8_is}
use Rattle.pbs_check.proofs.rules.rule_8.Goals as goal

pub find_all-requires-clause-closed : goal.find_all-requires-clause-closed
find_all-requires-clause-closed c =
    closed_uses c.args.spec.now.prods c.args.graph.now.uses.items c.requires.different c.requires.first
    c.requires.graph.uses

pub find_all-requires-clause-count : goal.find_all-requires-clause-count
find_all-requires-clause-count c =
    c.len.ensures ∙ sym (uses_size c.args.spec.now.prods c.args.graph.now.uses.items c.requires.different
    c.requires.first c.requires.graph.uses)

pub returns : goal.returns
returns c =
    let P : List (Vec Link) → Type 0 = λ us. IsLeast (HasRecursion us) c.least_recursion.result in
    rule_8_is c.args.spec.now c.args.graph.now.uses.items c.least_recursion.result c.requires.different
    c.requires.first c.requires.graph.uses (subst P c.as_slice.ensures.value c.least_recursion.ensures)
