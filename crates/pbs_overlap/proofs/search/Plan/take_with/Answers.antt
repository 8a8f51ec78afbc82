use Rattle.std.proofs.Common.{arith, ◌≤◌}
use Rattle.pbs_overlap.proofs.Work.{visits_more, visits_to}
use Rattle.pbs_overlap.proofs.search.Plan.take_with.Goals as goal

pub loop-j-preserved : goal.loop-j-preserved
loop-j-preserved c = visits_more c.loop-j.j (omega arith) c.loop-j.invariant c.in_ok-take.ensures

pub returns : goal.returns
returns c =
    let up = c.first-j.ensures.rises c.requires.q in
    let low : c.first-j.result ≤ c.first-j-end.result = omega (arith, up, c.first-j-end.ensures.value) in
    let end = c.loop-j.auto.j-end low in
    visits_to c.loop-j.j _ (omega (arith, end, c.loop-j-test.false, c.first-j-end.ensures.value)) c.loop-j.invariant
