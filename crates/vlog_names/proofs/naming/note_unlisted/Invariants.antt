use Rattle.std.proofs.Common.{◌≡◌, map, filter, drop, not, ◌&&◌}
use Rattle.std.specs.Prelude.{is_some}
use Rattle.vlog_text.specs.declared.raw.RawDecl.{RawDecl}
use Rattle.vlog_text.specs.Standing.{is_port}
use Rattle.vlog_text.specs.Refusing.{earliest, refusals}
use Rattle.vlog_names.specs.Names.{first_in}
use Rattle.vlog_names.proofs.naming.note_unlisted.Given as goal

abbrev pub invariant-loop-decl : goal.invariant-loop-decl
invariant-loop-decl l =
    earliest l.found
    (refusals 4
    (map (λ (d : RawDecl). d.name)
    (filter (λ (d : RawDecl). is_port d.kind && not (is_some (first_in l.listed d.name.word)))
    (drop l.decl-index l.decls))))
    ≡ earliest l.initial.found
    (refusals 4
    (map (λ (d : RawDecl). d.name)
    (filter (λ (d : RawDecl). is_port d.kind && not (is_some (first_in l.listed d.name.word))) l.decls)))
