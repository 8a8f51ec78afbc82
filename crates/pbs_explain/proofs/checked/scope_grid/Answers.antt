use Rattle.std.proofs.Common.{◌≡◌, [], ◌∷◌, ◌++◌, ap, arith, length, rules}
use Rattle.std.proofs.lemmas.List.{length_push}
use Rattle.pbs_ast.specs.Trees.{tree_of}
use Rattle.pbs_explain.specs.inner.Checked.{scoped}
use Rattle.pbs_explain.proofs.Grids.{grid_more}
use Rattle.pbs_explain.proofs.checked.scope_grid.Goals as goal

pub loop-back-preserved : goal.loop-back-preserved
loop-back-preserved c =
    let a = c.args in
    let l = c.loop-back in
    let row = c.in_ok-row.row in
    let items = a.reading.now.items.now in
    let grown : c.push.new.self ≡ l.grid ++ row ∷ [] = search rules in
    record {
      filled = omega (arith, ap length grown, length_push l.grid row, l.invariant.filled);
      exact = grid_more (length items) l.back l.grid c.push.new.self row
          (scoped (tree_of a.scope.now.body.now) (tree_of a.scope.now.trap.now) a.reading.now.known.run.now items a.scope.now.cuts a.body.now a.after.now)
          grown (omega (arith, c.loop-back-test.true, c.len-n.ensures)) l.invariant.filled l.invariant.exact
          (rw c.len-n.ensures at c.in_ok-row.ensures);
    }
