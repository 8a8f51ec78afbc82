use Rattle.std.proofs.Common.{sym, subst}
use Rattle.pbs_ast.specs.Trees.{tree_of}
use Rattle.pbs_overlap.specs.Rules.{ChecksTree, TreeRefuses}
use Rattle.pbs_overlap.specs.Told.{IsOverlapCause}
use Rattle.pbs_overlap.specs.declared.fail.OverlapFail.TheVariants as fails
use Rattle.pbs_overlap.proofs.RuleLemmas.{clear_with, scope_refuses}
use Rattle.pbs_overlap.proofs.rules.check_scopes.Goals as goal
use Rattle.pbs_overlap.proofs.rules.check_scopes.Goals.{in-Ok, in-Err-Scope, in-Err-Memory}

pub returns : goal.returns
returns c = λ span. let main = tree_of c.args.main.now.tree in elim c.match-check_overlap.branch [
  | in-Ok w ↦ subst (ChecksTree main span) (sym w.result-is)
      (clear_with main c.args.edges.now c.requires w.in-Ok.ensures.accepted)
  | in-Err-Scope w ↦
      let failed = w.in-Err-Scope in
      let cause : IsOverlapCause main (fails.Scope failed.field-0-0 failed.span) =
      rw failed.field-0-is at failed.ensures.cause in
      subst (ChecksTree main span) (sym w.result-is) (subst (TreeRefuses main span) (sym w.refused.ensures)
      (scope_refuses main span failed.span c.args.edges.now failed.field-0-0 c.requires cause.0 cause.1 cause.2))
  | in-Err-Memory w ↦ subst (ChecksTree main span) (sym w.result-is) tt
]
