use Rattle.std.proofs.Common.{◌≡◌, map, take}
use Rattle.bool_terms.specs.Terms.{holds, term_of}
use Rattle.pbs_covers.proofs.tables.truths.Given as goal

abbrev pub invariant-loop-vector : goal.invariant-loop-vector
invariant-loop-vector l = l.truths ≡ map (holds (term_of l.term)) (take l.vector-index l.run)
