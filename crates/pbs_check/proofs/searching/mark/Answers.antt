use Rattle.std.proofs.Common.{◌<◌, Some, None, length, refl, sym, ap, ◌∙◌, arith}
use Rattle.std.specs.Prelude.{nat_eq}
use Rattle.std.specs.Option.{option_eq}
use Rattle.std.proofs.lemmas.Option.{get_or_from_slice_get}
use Rattle.std.proofs.lemmas.Bool.{not-true}
use Rattle.pbs_check.proofs.GraphLemmas.{get_at}
use Rattle.pbs_check.proofs.SearchLemmas.{grows_one}
use Rattle.pbs_check.proofs.searching.mark.Goals as goal

pub returns-in_ok-push-clause-grows : goal.returns-in_ok-push-clause-grows
returns-in_ok-push-clause-grows c =
    let marks = c.args.search.now.marks in let n = c.args.number in let root = c.args.root in
    let mark = c.index.result.now in
    let within : n < length marks.items = omega (arith, c.if-number-len.true, c.len.ensures, marks.ok) in
    let e = get_or_from_slice_get marks.items n mark None (get_at marks.items n mark within c.index.ensures) in
    let other = not-true (option_eq nat_eq mark (Some root)) (sym c.ne.ensures ∙ c.if-ne.true) in
    grows_one root c.args.search.now _ n within (ap (λ m. option_eq nat_eq m (Some root)) e ∙ other) refl
    c.in_ok-push.ensures.items
