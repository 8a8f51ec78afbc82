use Rattle.std.proofs.Common.{arith}
use Rattle.pbs_check.proofs.CircleLemmas.{all_more}
use Rattle.pbs_check.proofs.circles.Circles.find_all.Goals as goal

pub loop-root-2-preserved : goal.loop-root-2-preserved
loop-root-2-preserved c = record {
  circles = c.in_ok-circles-3.ensures.circles;
  all = all_more c.loop-root-2.circles.roots.items c.in_ok-circles-3.circles.roots.items c.loop-root-2.root
      c.loop-root-2.invariant.all c.in_ok-circles-3.ensures.kept
      (c.in_ok-circles-3.ensures.found (omega (arith, c.loop-root-2-test.true, c.requires.count)));
}

pub returns : goal.returns
returns c = record {
  known = c.loop-root-2.invariant.circles.roots;
  all = λ k few. c.loop-root-2.invariant.all k (omega (arith, few, c.loop-root-2-test.false, c.requires.count));
}
