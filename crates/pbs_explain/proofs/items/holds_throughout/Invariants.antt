use Rattle.std.proofs.Common.{◌≡◌, ◌+◌, ◌<◌, ℕ, length}
use Rattle.bool_terms.specs.Terms.{term_of}
use Rattle.pbs_derive.specs.Derivations.{all_hold}
use Rattle.pbs_covers.specs.Grids.{entry}
use Rattle.pbs_explain.specs.inner.Checked.{reached}
use Rattle.pbs_explain.proofs.items.holds_throughout.Given as goal

abbrev pub invariant-loop-c : goal.invariant-loop-c
invariant-loop-c l = record {
  filled : length l.list ≡ l.c;
  exact : (k : ℕ) → k < l.c → entry l.list k ≡ all_hold (term_of l.term) l.reading.known.run.now
      (reached 0 l.reading.items.now k) (reached 0 l.reading.items.now (k + 1));
}
