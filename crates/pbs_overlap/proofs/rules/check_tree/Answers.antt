use Rattle.std.proofs.Common.{sym, subst, ◌∙◌}
use Rattle.pbs_ast.specs.Trees.{Tree, tree_of}
use Rattle.pbs_edges.specs.Found.{IsEdgeCause}
use Rattle.pbs_edges.specs.declared.fail.EdgeFail.TheVariants as edge
use Rattle.pbs_overlap.specs.Rules.{TreeRefuses, By14, By15}
use Rattle.pbs_overlap.proofs.RuleLemmas.{clear_without}
use Rattle.pbs_overlap.proofs.rules.check_tree.Goals as goal

pub returns-then-has_no_scope : goal.returns-then-has_no_scope
returns-then-has_no_scope c =
    let main = tree_of c.args.main.now.tree in
    let none = sym c.has_no_scope.ensures ∙ c.if-has_no_scope.true in
    clear_without main none (c.scopeless_is_clear.ensures main none)

pub returns-in-Ok : goal.returns-in-Ok
returns-in-Ok c = c.check_scopes.ensures c.args.span

pub returns-in-Err-TooManyEdges : goal.returns-in-Err-TooManyEdges
returns-in-Err-TooManyEdges c =
    let main = tree_of c.args.main.now.tree in
    let cause : IsEdgeCause main edge.TooManyEdges =
    rw c.in-Err-TooManyEdges.field-0-is at c.in-Err-TooManyEdges.ensures.cause in
    subst (TreeRefuses main c.args.span) (sym c.refused.ensures)
    (By14 (sym c.has_no_scope.ensures ∙ c.if-has_no_scope.false) cause)

pub returns-in-Err-TooManyTerms : goal.returns-in-Err-TooManyTerms
returns-in-Err-TooManyTerms c =
    let main = tree_of c.args.main.now.tree in
    let cause : IsEdgeCause main edge.TooManyTerms =
    rw c.in-Err-TooManyTerms.field-0-is at c.in-Err-TooManyTerms.ensures.cause in
    subst (TreeRefuses main c.args.span) (sym c.refused-in-Err-TooManyTerms.ensures)
    (By15 (sym c.has_no_scope.ensures ∙ c.if-has_no_scope.false) cause.0 cause.1)
