use Rattle.std.proofs.Common.{List, map, Some, subst, ap, ◌∙◌}
use Rattle.vlog_text.specs.declared.raw.RawName.{RawName}
use Rattle.vlog_text.specs.declared.raw.RawDecl.{RawDecl}
use Rattle.vlog_names.specs.Names.{kinds_in, kinds_of, IsFirsts}
use Rattle.vlog_names.proofs.RuleLemmas.{rule_4_noted}
use Rattle.vlog_names.proofs.naming.check_names.Goals as goal

pub returns-clause-found : goal.returns-clause-found
returns-clause-found c =
    rule_4_noted c.args.raw.now (kinds_in c.in_ok-kinds.kinds)
    (λ w. c.in_ok-kinds.ensures.kinds.knows w ∙ ap (λ (ds : List RawDecl). kinds_of ds w) c.as_slice.ensures)
    c.in_ok-listed.listed
    (subst (λ (ns : List RawName). IsFirsts (map (λ (n : RawName). Some n) ns) c.in_ok-listed.listed)
    c.as_slice-2.ensures c.in_ok-listed.ensures.firsts)
    c.as_slice.result.now c.as_slice-4.result.now c.as_slice-2.result.now c.as_slice-3.result.now
    c.as_slice.ensures c.as_slice-2.ensures c.as_slice-3.ensures c.as_slice-4.ensures
    c.in_ok-kinds.found c.in_ok-listed.found c.note_undeclared-found.result c.note_names-found.result
    c.note_unlisted-found.result c.in_ok-kinds.ensures.found c.in_ok-listed.ensures.found
    c.note_undeclared-found.ensures c.note_names-found.ensures c.note_unlisted-found.ensures
