use Rattle.pbs_ast.specs.Trees.{tree_of}
use Rattle.pbs_overlap.specs.Told.{IsOverlapCause}
use Rattle.pbs_overlap.specs.declared.fail.OverlapFail.TheVariants.{Scope}
use Rattle.pbs_codes.proofs.sharing.plan_over.Goals as goal

pub unreachable-requires : goal.unreachable-requires
unreachable-requires c =
    let scope = c.in-Err-Scope.field-0-0 in
    let cause : IsOverlapCause (tree_of c.args.main.now.tree) (Scope scope c.in-Err-Scope.field-0-1) =
    rw c.in-Err-Scope.field-0-is at c.in-Err-Scope.ensures.cause in
    c.requires.scopes scope cause.0
