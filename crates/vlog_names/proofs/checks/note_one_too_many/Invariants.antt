use Rattle.std.proofs.Common.{◌≡◌, map, filter, drop}
use Rattle.vlog_text.specs.declared.raw.RawDecl.{RawDecl}
use Rattle.vlog_text.specs.Refusing.{at_place}
use Rattle.vlog_names.specs.inner.Checks.{is_counted}
use Rattle.vlog_names.proofs.checks.note_one_too_many.Given as goal

abbrev pub invariant-loop-decl : goal.invariant-loop-decl
invariant-loop-decl l =
    at_place l.left (map (λ (d : RawDecl). d.name) (filter (is_counted l.counted) (drop l.decl-index l.decls)))
    ≡ at_place l.most (map (λ (d : RawDecl). d.name) (filter (is_counted l.counted) l.decls))
