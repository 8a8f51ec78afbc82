use Rattle.std.proofs.Common.{◌+◌, Option, None, get_or, sym, ap, subst, ◌∙◌}
use Rattle.pbs_base.specs.declared.refusal.Span.{Span}
use Rattle.pbs_check.specs.inner.Circles.{round_span}
use Rattle.pbs_check.specs.Least.{IsLeast, least_of, least_by}
use Rattle.pbs_check.specs.inner.Links.{HasRecursionTo}
use Rattle.pbs_check.proofs.GraphLemmas.{get_at}
use Rattle.pbs_check.proofs.RoundLemmas.{recursion_is, below_more, below_all}
use Rattle.pbs_check.proofs.recursion.least_recursion.Goals as goal

pub loop-number-preserved : goal.loop-number-preserved
loop-number-preserved c =
    let uses = c.args.uses.now in let roots = c.args.roots.now in let n = c.loop-number.number in
    let links = c.index-uses-number.result in
    let P : Option Span → Type 0 = IsLeast (HasRecursionTo uses (n + 1)) in
    let is = c.least_of-found.ensures ∙ ap (least_of c.loop-number.found) (c.least_round.ensures
    ∙ ap (λ r. least_by (round_span roots r) c.as_slice.result.now) c.root_of-root.ensures
    ∙ ap (least_by (round_span roots (get_or roots n None))) c.as_slice.ensures.value) in
    subst P (sym is) (below_more uses n c.loop-number.found (least_by (round_span roots (get_or roots n None))
    links.items) c.loop-number.invariant
    (recursion_is uses roots n links c.requires (get_at uses n links c.loop-number-test.true c.index-uses-number.is)))

pub returns : goal.returns
returns c = below_all c.args.uses.now c.loop-number.number c.loop-number.found c.loop-number-test.false
    c.loop-number.invariant
