use Rattle.std.proofs.Common.{◌≡◌, drop}
use Rattle.vlog_text.specs.Refusing.{earliest, refusals}
use Rattle.vlog_names.specs.Names.{kinds_in}
use Rattle.vlog_names.specs.inner.Rows.{faulty}
use Rattle.vlog_names.proofs.rows.note_names.Given as goal

abbrev pub invariant-loop-name : goal.invariant-loop-name
invariant-loop-name l =
    earliest l.found (refusals l.rule (faulty l.fault (kinds_in l.kinds) (drop l.name-index l.names)))
    ≡ earliest l.initial.found (refusals l.rule (faulty l.fault (kinds_in l.kinds) (l.names)))
