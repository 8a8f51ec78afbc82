use Rattle.std.proofs.Common.{Some, ap, ◌∙◌, sym, subst}
use Rattle.pbs_ast.specs.Trees.{tree_of}
use Rattle.pbs_ast.specs.declared.tree.Tree.{Tree}
use Rattle.pbs_expand.specs.Ready.{NamesDeclared}
use Rattle.pbs_expand.proofs.Main.{widens, passes}
use Rattle.pbs_expand.proofs.expansion.narrow.Goals as goal

pub returns-in-Some-clause-exact : goal.returns-in-Some-clause-exact
returns-in-Some-clause-exact c =
    widens c.args.spec.now (tree_of c.args.tree) c.first_wide.result c.in-Some.span c.requires.is c.requires.limits
    c.requires.counted c.first_wide.ensures c.in-Some.is
    ∙ ap Some (sym c.refused.ensures)

pub returns-in-None-clause-exact : goal.returns-in-None-clause-exact
returns-in-None-clause-exact c = (
  passes c.args.spec.now (tree_of c.args.tree) c.first_wide.result c.requires.is c.requires.limits c.requires.counted
      c.first_wide.ensures c.in-None.is,
  ap tree_of c.new.ensures ∙ c.requires.is,
)

pub returns-in-None-clause-names : goal.returns-in-None-clause-names
returns-in-None-clause-names c = let P : Tree → Type 0 = λ t. NamesDeclared c.args.spec.now (tree_of t) in subst P
    (sym c.new.ensures) c.requires.names
