use Rattle.std.proofs.Common.{◌≡◌, ◌++◌, drop, map}
use Rattle.pbs_check.specs.declared.named.Named.{Named}
use Rattle.pbs_check.proofs.tables.words_of.Given as goal

abbrev pub invariant-loop-named : goal.invariant-loop-named
invariant-loop-named l = l.words.items ++ map (λ (n : Named). n.name) (drop l.named-index l.names) ≡ map
    (λ (n : Named). n.name) l.names
