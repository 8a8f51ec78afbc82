use Rattle.std.proofs.Common.{◌≡◌, ◌++◌, drop}
use Rattle.pbs_names.specs.Naming.{level_names}
use Rattle.pbs_names.proofs.names.level_words.Given as goal

abbrev pub invariant-loop-level : goal.invariant-loop-level
invariant-loop-level l = l.words.items ++ level_names (drop l.level-index l.level-items) ≡ level_names l.levels
