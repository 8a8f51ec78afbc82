use Rattle.vlog_names.proofs.KindLemmas.{Declared}
use Rattle.vlog_names.proofs.naming.declare.Given as goal

abbrev pub invariant-loop-decl : goal.invariant-loop-decl
invariant-loop-decl l = Declared l.decls l.decl-index l.kinds l.initial.found l.found
