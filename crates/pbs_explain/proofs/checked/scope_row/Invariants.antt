use Rattle.std.proofs.Common.{◌≡◌, ◌≤◌, ◌<◌, ℕ, length}
use Rattle.pbs_ast.specs.Trees.{tree_of}
use Rattle.pbs_covers.specs.Grids.{entry}
use Rattle.pbs_explain.specs.inner.Checked.{scoped}
use Rattle.pbs_explain.proofs.checked.scope_row.Given as goal

abbrev pub invariant-loop-d : goal.invariant-loop-d
invariant-loop-d l = record {
  filled : length l.row ≡ l.d;
  exact : (k : ℕ) → l.c ≤ k → k < l.d → entry l.row k ≡ scoped (tree_of l.scope.body.now) (tree_of l.scope.trap.now)
      l.reading.known.run.now l.reading.items.now l.scope.cuts l.body l.after l.c k;
}
