use Rattle.std.proofs.Common.{arith, length, ◌≤◌}
use Rattle.std.proofs.lemmas.Result.{IfOk-weaker}
use Rattle.net_equiv.specs.inner.Halves.{LiesInHalf}
use Rattle.net_equiv.proofs.Halving.{filled_kept, half_outcome, half_wide_a, half_wide_b}
use Rattle.net_equiv.proofs.halves.compare_halves.Goals as goal

pub finish-requires-clause-a_filled : goal.finish-requires-clause-a_filled
finish-requires-clause-a_filled c =
    rw c.deref.ensures.value
    (filled_kept c.args.a.now (LiesInHalf c.args.b.now) c.fill.new.vars.items c.fill-in-Ok.new.vars.items
    c.fill.new.cone c.fill-in-Ok.ensures.adds c.in-Ok.ensures.filled)

pub returns-in-Ok-fill-clause-outcome : goal.returns-in-Ok-fill-clause-outcome
returns-in-Ok-fill-clause-outcome c =
    let begun : length c.new-vars.result.items ≤ 16 = rw c.new-vars.ensures.items (omega arith) in
    IfOk-weaker c.finish.result _ _
    (λ told is_told. half_outcome c.args.a.now c.args.b.now c.fill.new.vars.items c.fill-in-Ok.new.vars.items
    (rw c.new-vars.ensures.items at c.fill.ensures.adds) c.fill-in-Ok.ensures.adds c.args.c
    c.fill.new.cone.marks.items c.fill-in-Ok.new.cone.marks.items told c.in-Ok.ensures.filled.closed
    c.in-Ok-fill.ensures.filled.closed (c.in-Ok-fill.ensures.few (c.in-Ok.ensures.few begun))
    (rw c.deref.ensures.value at is_told))
    c.finish.ensures.told

pub returns-in-Ok-clause-wide : goal.returns-in-Ok-clause-wide
returns-in-Ok-clause-wide c =
    λ e. half_wide_b c.args.a.now c.args.b.now c.fill.new.vars.items c.fill-in-Ok.new.vars.items
    (rw c.new-vars.ensures.items at c.fill.ensures.adds) c.fill-in-Ok.ensures.adds (c.in-Err-fill.ensures.wide e)

pub returns-clause-wide : goal.returns-clause-wide
returns-clause-wide c =
    λ e. half_wide_a c.args.a.now c.args.b.now c.fill.new.vars.items
    (rw c.new-vars.ensures.items at c.fill.ensures.adds) (c.in-Err.ensures.wide e)
