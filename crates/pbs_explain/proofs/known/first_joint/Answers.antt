use Rattle.std.proofs.Common.{sym, arith, ◌&&◌, ◌-◌, ◌∙◌, inl, inr}
use Rattle.std.proofs.lemmas.Bool.{and_from}
use Rattle.pbs_covers.specs.Grids.{at}
use Rattle.pbs_explain.proofs.Walks.{first_is}
use Rattle.pbs_explain.proofs.known.first_joint.Goals as goal

pub returns-then-at-2 : goal.returns-then-at-2
returns-then-at-2 c =
    let a = c.args in let m = c.loop-m.m in
    sym (first_is (a.j - a.k) a.k (λ m. at a.n a.left.now a.i m && at a.n a.right.now m a.j) m c.loop-m.auto.m
    (omega arith) c.loop-m.invariant
    (inl (and_from (at a.n a.left.now a.i m) (at a.n a.right.now m a.j) (sym c.at.ensures ∙ c.if-at.true)
    (sym c.at-then-at.ensures ∙ c.if-at-2.true))))

pub returns : goal.returns
returns c =
    let a = c.args in
    sym (first_is (a.j - a.k) a.k (λ m. at a.n a.left.now a.i m && at a.n a.right.now m a.j) a.j
    (omega arith) (omega arith)
    (λ p q r. c.loop-m.invariant p q (omega arith)) (inr (omega arith)))
