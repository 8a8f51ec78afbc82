use Rattle.std.proofs.Common.{arith, ◌≤◌}
use Rattle.pbs_overlap.proofs.Work.{visits_more, visits_to}
use Rattle.pbs_overlap.proofs.search.Plan.take_all.Goals as goal

pub loop-i-preserved : goal.loop-i-preserved
loop-i-preserved c = visits_more c.loop-i.i (omega arith) c.loop-i.invariant c.in_ok-take_with.ensures

pub returns : goal.returns
returns c =
    let up = c.first-i.ensures.rises c.requires.p in
    let low : c.first-i.result ≤ c.first-i-end.result = omega (arith, up, c.first-i-end.ensures.value) in
    let end = c.loop-i.auto.i-end low in
    visits_to c.loop-i.i _ (omega (arith, end, c.loop-i-test.false, c.first-i-end.ensures.value)) c.loop-i.invariant
