use Rattle.std.proofs.Common.{◌≡◌, ◌++◌, drop}
use Rattle.pbs_names.specs.Naming.{action_names}
use Rattle.pbs_names.proofs.names.action_words.Given as goal

abbrev pub invariant-loop-decl : goal.invariant-loop-decl
invariant-loop-decl l = l.words.items ++ action_names (drop l.decl-index l.decl-items) ≡ action_names l.actions
