use Rattle.std.proofs.Common.{◌≡◌, ◌<◌, ℕ, length}
use Rattle.bool_terms.specs.Terms.{term_of}
use Rattle.pbs_covers.specs.Grids.{entry}
use Rattle.pbs_explain.specs.inner.Checked.{takes_at}
use Rattle.pbs_explain.proofs.items.takes.Given as goal

abbrev pub invariant-loop-c : goal.invariant-loop-c
invariant-loop-c l = record {
  filled : length l.list ≡ l.c;
  exact : (k : ℕ) → k < l.c → entry l.list k ≡ takes_at l.place (term_of l.term) l.reading.known.run.now l.reading.items.now k;
}
