use Rattle.pbs_ast.specs.Trees.{Scope, spot_of, tree_of}
use Rattle.pbs_explain.specs.inner.Checked.{Reads}
use Rattle.pbs_explain.proofs.Following.{if_ok_both}
use Rattle.pbs_explain.proofs.Reading.{scope_reads}
use Rattle.pbs_explain.proofs.checked.+read_chart.Goals as goal

pub returns-in_ok-after-in-Scope : goal.returns-in_ok-after-in-Scope
returns-in_ok-after-in-Scope t c =
    let a = c.args in
    let v = a.reading.now.known.run.now in
    let items = a.reading.now.items.now in
    let node = a.reading.now.node in
    let e = tree_of c.in-Scope.e.value in
    let x = tree_of c.in-Scope.x.value in
    let h = tree_of c.in-Scope.h.value in
    let spot = spot_of a.tree.now.span a.tree.now.number in
    let cuts = c.in_ok-cuts-in-Scope.cuts in
    let body = c.in_ok-body-in-Scope.body in
    let after = c.in_ok-after-in-Scope.after in
    let cut_told = rw (c.deref-in-Scope.ensures, c.deref-in-Scope-2.ensures) at c.in_ok-cuts-in-Scope.ensures in
    let body_told = rw c.deref-in-Scope-3.ensures at c.in_ok-body-in-Scope.ensures in
    let after_told = rw c.deref-in-Scope-4.ensures at c.in_ok-after-in-Scope.ensures in
    rw c.in-Scope.is
    (if_ok_both c.scope_chart.result _ _ (Reads v items node (Scope spot c.in-Scope.scope e x h))
    (λ chart p q. scope_reads v items node c.requires.follows.leads spot c.in-Scope.scope e x h cuts body after chart
    cut_told body_told after_told p q)
    (rw (c.deref-in-Scope-5.ensures, c.deref-in-Scope-6.ensures) at c.scope_chart.ensures.covers)
    (rw (c.deref-in-Scope-5.ensures, c.deref-in-Scope-6.ensures) at c.scope_chart.ensures.fires))
