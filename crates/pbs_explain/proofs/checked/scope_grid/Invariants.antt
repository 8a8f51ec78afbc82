use Rattle.std.proofs.Common.{◌≡◌, ◌+◌, ◌≤◌, ◌<◌, ℕ, length}
use Rattle.pbs_ast.specs.Trees.{tree_of}
use Rattle.pbs_covers.specs.Grids.{at}
use Rattle.pbs_explain.specs.inner.Checked.{scoped}
use Rattle.pbs_explain.proofs.checked.scope_grid.Given as goal

abbrev pub invariant-loop-back : goal.invariant-loop-back
invariant-loop-back l = record {
  filled : length l.grid ≡ l.back;
  exact : (c d : ℕ) → length l.reading.items.now < c + l.back → c ≤ d → d ≤ length l.reading.items.now
      → at (length l.reading.items.now) l.grid c d ≡ scoped (tree_of l.scope.body.now) (tree_of l.scope.trap.now)
      l.reading.known.run.now l.reading.items.now l.scope.cuts l.body l.after c d;
}
