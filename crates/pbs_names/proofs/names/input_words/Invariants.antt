use Rattle.std.proofs.Common.{◌≡◌, ◌++◌, drop}
use Rattle.pbs_names.specs.Naming.{input_names}
use Rattle.pbs_names.proofs.names.input_words.Given as goal

abbrev pub invariant-loop-decl : goal.invariant-loop-decl
invariant-loop-decl l = l.words.items ++ input_names (drop l.decl-index l.decl-items) ≡ input_names l.inputs
