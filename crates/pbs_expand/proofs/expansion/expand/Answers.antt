use Rattle.std.proofs.Common.{Some, ap, ◌∙◌, sym, subst}
use Rattle.pbs_ast.specs.Trees.{Tree, tree_of}
use Rattle.pbs_ast.specs.Sound.{IsProper}
use Rattle.pbs_expand.proofs.Main.{Makes, makes, stops}
use Rattle.pbs_expand.proofs.ProperTrees.{proper}
use Rattle.pbs_expand.proofs.expansion.expand.Goals as goal

made : (c : goal.In-Ok-grow) → Makes c.args.spec.now (tree_of c.in-Ok-grow.grown.tree)
made c = makes c.args.spec.now (tree_of c.in-Ok-grow.grown.tree) c.in-Ok-grow.grown.after c.requires.inputs
    c.in-Ok-grow.ensures.0 c.in-Ok-grow.ensures.1

pub narrow-requires-clause-counted : goal.narrow-requires-clause-counted
narrow-requires-clause-counted c = (made c).counted

pub narrow-requires-clause-proper : goal.narrow-requires-clause-proper
narrow-requires-clause-proper c = let P : Tree → Type 0 = IsProper in subst P (sym (made c).is)
    (proper c.args.spec.now c.requires (made c).no_limit)

pub narrow-requires-clause-is : goal.narrow-requires-clause-is
narrow-requires-clause-is c = (made c).is

pub narrow-requires-clause-limits : goal.narrow-requires-clause-limits
narrow-requires-clause-limits c = (made c).no_limit

pub narrow-requires-clause-names : goal.narrow-requires-clause-names
narrow-requires-clause-names c = (made c).named

pub returns-in-Err-Over-clause-exact : goal.returns-in-Err-Over-clause-exact
returns-in-Err-Over-clause-exact c =
    stops c.args.spec.now c.in-Err-Over.span (rw c.in-Err-Over.field-0-is at c.in-Err-Over.ensures)
    ∙ ap Some (sym c.refused.ensures)
