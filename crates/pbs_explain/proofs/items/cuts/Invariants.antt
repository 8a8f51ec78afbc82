use Rattle.std.proofs.Common.{◌≡◌, ◌<◌, ℕ, length}
use Rattle.pbs_ast.specs.Trees.{tree_of}
use Rattle.pbs_covers.specs.Grids.{entry}
use Rattle.pbs_explain.specs.inner.Checked.{cuts_at}
use Rattle.pbs_explain.proofs.items.cuts.Given as goal

abbrev pub invariant-loop-c : goal.invariant-loop-c
invariant-loop-c l = record {
  filled : length l.list ≡ l.c;
  exact : (k : ℕ) → k < l.c → entry l.list k ≡ cuts_at l.scope (tree_of l.body) (tree_of l.trap)
      l.reading.known.run.now l.reading.items.now k;
}
