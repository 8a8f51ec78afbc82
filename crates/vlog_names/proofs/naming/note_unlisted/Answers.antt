use Rattle.std.proofs.Common.{List, Bool, map, filter, not, ◌&&◌, arith, ap, ◌∙◌}
use Rattle.std.specs.Prelude.{is_some}
use Rattle.vlog_text.specs.declared.raw.RawDecl.{RawDecl}
use Rattle.vlog_text.specs.Standing.{is_port}
use Rattle.vlog_text.specs.Refusing.{earliest, refusals}
use Rattle.vlog_names.specs.Names.{first_in}
use Rattle.vlog_names.specs.inner.Steps.{when}
use Rattle.vlog_names.proofs.Noting.{noted_more}
use Rattle.vlog_names.proofs.KindLemmas.{decl_opens}
use Rattle.vlog_names.proofs.naming.note_unlisted.Goals as goal

pub loop-decl-preserved : goal.loop-decl-preserved
loop-decl-preserved c =
    let x = c.decl-item.result in
    let such : RawDecl → Bool
    = (λ (d : RawDecl). is_port d.kind && not (is_some (first_in c.args.listed.now d.name.word))) in
    noted_more (λ (ds : List RawDecl). map (λ (d : RawDecl). d.name) (filter such ds))
    (λ (d : RawDecl). when (such d) d.name) (decl_opens such) 4 c.args.decls.now c.loop-decl.decl-index x
    c.loop-decl.found c.note_if-found.result (omega arith) c.decl-item.is
    (c.note_if-found.ensures
    ∙ ap (λ b. earliest c.loop-decl.found (refusals 4 (when b x.name))) c.is_unlisted-is_unlisted.ensures
    ∙ ap (λ b. earliest c.loop-decl.found (refusals 4 (when (is_port x.kind && not b) x.name))) c.has.ensures)
    ∙ c.loop-decl.invariant
