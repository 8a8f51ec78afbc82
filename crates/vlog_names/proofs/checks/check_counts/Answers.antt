use Rattle.std.proofs.Common.{List, map, filter, None, ap, ◌∙◌}
use Rattle.vlog_text.specs.declared.raw.RawDecl.{RawDecl}
use Rattle.vlog_text.specs.Refusing.{earliest, refusals, at_place}
use Rattle.vlog_names.specs.declared.checks.Counted.TheVariants.{Inputs, Outputs}
use Rattle.vlog_names.specs.inner.Checks.{is_counted}
use Rattle.vlog_names.proofs.RuleLemmas.{then_noted}
use Rattle.vlog_names.proofs.checks.check_counts.Goals as goal

pub returns : goal.returns
returns c =
    let ds = c.args.raw.now.decls in
    then_noted 8 None c.note_one_too_many-found.result c.note_one_too_many.result
    (at_place 64 (map (λ (d : RawDecl). d.name) (filter (is_counted Inputs) ds)))
    (at_place 128 (map (λ (d : RawDecl). d.name) (filter (is_counted Outputs) ds)))
    (c.note_one_too_many-found.ensures ∙ ap (λ (xs : List RawDecl). earliest None (refusals 8 (at_place 64
    (map (λ (d : RawDecl). d.name) (filter (is_counted Inputs) xs))))) c.as_slice.ensures)
    (c.note_one_too_many.ensures ∙ ap (λ (xs : List RawDecl). earliest c.note_one_too_many-found.result
    (refusals 8 (at_place 128 (map (λ (d : RawDecl). d.name) (filter (is_counted Outputs) xs))))) c.as_slice-2.ensures)
