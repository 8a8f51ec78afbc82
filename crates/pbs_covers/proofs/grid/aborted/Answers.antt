use Rattle.std.proofs.Common.{sym, arith, ◌∙◌}
use Rattle.std.proofs.lemmas.Bool.{and_from, both_ways}
use Rattle.pbs_covers.specs.Grids.{at, trips_at}
use Rattle.pbs_derive.proofs.Positions.{tripped, untripped}
use Rattle.pbs_covers.proofs.grid.aborted.Goals as goal

pub returns-then-at-2 : goal.returns-then-at-2
returns-then-at-2 c =
    let a = c.args in let m = c.loop-m.m in
    c.at-then-at-2.ensures ∙ sym (tripped a.i a.j (trips_at a.n a.trap.now a.alive.now a.i)
    (λ p. at a.n a.after.now p a.j) (at a.n a.body.now a.i a.j) m
    (omega arith) (omega arith)
    (and_from (at a.n a.trap.now a.i m) _ (sym c.at.ensures ∙ c.if-at.true) (sym c.at-then-at.ensures ∙ c.if-at-2.true))
    (λ p from to. both_ways _ (c.loop-m.invariant p from (omega arith))))

pub returns : goal.returns
returns c =
    let a = c.args in
    c.at-2.ensures ∙ sym (untripped a.i a.j (trips_at a.n a.trap.now a.alive.now a.i) (λ p. at a.n a.after.now p a.j)
    (at a.n a.body.now a.i a.j)
    (λ p from to. both_ways _ (c.loop-m.invariant p from (omega arith))))
