use Rattle.std.proofs.Common.{◌∙◌, List, subst}
use Rattle.std.specs.Global.{Vec}
use Rattle.pbs_names.specs.Naming.{index_of, prod_names}
use Rattle.pbs_names.specs.Numbers.{number_in}
use Rattle.pbs_check.specs.declared.graph.Link.{Link}
use Rattle.pbs_check.specs.inner.Links.{AreTargets, AreUsers}
use Rattle.pbs_check.proofs.NumberLemmas.{same_links}
use Rattle.pbs_check.proofs.graph.Graph.new.Goals as goal

pub returns : goal.returns
returns c = record {
  uses = c.in_ok-uses.ensures ∙ same_links (number_in c.args.numbers.now) (index_of (prod_names c.args.prods.now))
      c.requires.finds c.args.prods.now;
  targets = let P : List (Vec Link) → Type 0 = λ us. AreTargets us c.in_ok-targets.targets.items in
      subst P c.as_slice.ensures.value c.in_ok-targets.ensures;
  users = let P : List (Vec Link) → Type 0 = λ us. AreUsers us c.in_ok-users.users.items in
      subst P c.as_slice-2.ensures.value c.in_ok-users.ensures;
}
