use Rattle.std.proofs.Common.{◌≡◌, ◌+◌, Bool, List, length, get_or, sym, ap, subst, arith}
use Rattle.pbs_ast.specs.declared.syntax.Prod.{Prod}
use Rattle.pbs_check.proofs.LearnLemmas.{LearnsTo, learns_more, learns_same, learns_all}
use Rattle.pbs_check.proofs.settling.learn_all.Goals as goal
use Rattle.pbs_check.proofs.settling.learn_all.Goals.{then-branch, else-branch}

pub loop-prod-preserved : goal.loop-prod-preserved
loop-prod-preserved c =
    let prods = c.args.prods.now in let i = c.loop-prod.prod-index in let p = c.prod-item.result in
    let P : Bool → Type 0 = LearnsTo c.args.prods.now (i + 1) c.args.known.now c.learn.new.known in
    let Q : List Prod → Type 0 = λ ps. p ≡ get_or ps i p in
    elim c.if-branch.branch [
      | then-branch w ↦
          subst P (sym w.learnt-is) (learns_more prods i c.args.known.now c.loop-prod.known c.learn.new.known
          c.loop-prod.learnt c.loop-prod.invariant
          (λ s. c.in_ok-learn.ensures.settles) (c.in_ok-learn.ensures.fewer w.if-branch.true))
      | else-branch w ↦
          subst P (sym w.learnt-is) (learns_same prods i p c.args.known.now c.loop-prod.known c.learn.new.known
          c.loop-prod.learnt
          (omega (arith, c.loop-prod-test.true, ap length c.as_slice-prod-items.ensures))
          (subst Q c.as_slice-prod-items.ensures c.prod-item.is) c.loop-prod.invariant
          (c.in_ok-learn.ensures.same w.if-branch.false) (c.in_ok-learn.ensures.stuck w.if-branch.false))
    ]

pub returns-clause-stuck : goal.returns-clause-stuck
returns-clause-stuck c none =
    learns_all c.args.prods.now c.loop-prod.prod-index c.args.known.now c.loop-prod.known c.loop-prod.learnt
    (omega (arith, c.loop-prod-test.false, ap length c.as_slice-prod-items.ensures)) none c.loop-prod.invariant
