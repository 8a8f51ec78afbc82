use Rattle.std.proofs.Common.{sym, arith, ◌∙◌}
use Rattle.std.proofs.lemmas.Bool.{both_ways}
use Rattle.pbs_covers.specs.Grids.{entry}
use Rattle.pbs_derive.proofs.Positions.{false_from, each_to, each_from}
use Rattle.pbs_covers.proofs.grid.throughout.Goals as goal

pub returns-then-not-entry : goal.returns-then-not-entry
returns-then-not-entry c =
    let a = c.args in
    sym (false_from _ (λ e. both_ways _ (sym c.entry.ensures ∙ c.if-not-entry.true)
    (each_to a.i a.j (entry a.truths.now) e c.loop-m.m c.loop-m.auto.m c.loop-m-test.true)))

pub returns : goal.returns
returns c =
    let a = c.args in
    sym (each_from a.i a.j (entry a.truths.now) (λ p from to. c.loop-m.invariant p from (omega arith)))
