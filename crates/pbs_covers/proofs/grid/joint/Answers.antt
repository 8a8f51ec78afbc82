use Rattle.std.proofs.Common.{sym, arith, ◌&&◌, ◌∙◌}
use Rattle.std.proofs.lemmas.Bool.{and_from}
use Rattle.pbs_covers.specs.Grids.{at}
use Rattle.pbs_derive.proofs.Positions.{within_from, none_within}
use Rattle.pbs_covers.proofs.grid.joint.Goals as goal

pub returns-then-at-2 : goal.returns-then-at-2
returns-then-at-2 c =
    let a = c.args in let m = c.loop-m.m in
    sym (within_from a.k a.j (λ p. at a.n a.left.now a.i p && at a.n a.right.now p a.j) m c.loop-m.auto.m (omega arith)
    (and_from (at a.n a.left.now a.i m) (at a.n a.right.now m a.j) (sym c.at.ensures ∙ c.if-at.true)
    (sym c.at-then-at.ensures ∙ c.if-at-2.true)))

pub returns : goal.returns
returns c =
    let a = c.args in
    sym (none_within a.k a.j (λ m. at a.n a.left.now a.i m && at a.n a.right.now m a.j)
    (λ p q r. c.loop-m.invariant p q (omega arith)))
