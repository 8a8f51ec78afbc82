use Rattle.std.proofs.Common.{◌≡◌, ◌≤◌, List, length, ap, arith}
use Rattle.net_core.specs.declared.gate.Gate.{Gate}
use Rattle.pbs_realize.proofs.ShrinkLemmas.{shrinks_further, shrinks_tidied}
use Rattle.pbs_realize.proofs.tidying.shrunk.Goals as goal

pub loop-init : goal.loop-init
loop-init c =
    shrinks_tidied c.args.net.now c.in_ok-least.least c.in_ok-least.ensures.follows c.in_ok-least.ensures.tidy
    c.in_ok-least.ensures.built

pub loop-preserved : goal.loop-preserved
loop-preserved c =
    let least = c.loop.least in
    let next = c.in_ok-next.next in
    let after : length c.gates.result.now ≡ length next.gates = ap (λ (l : List Gate). length l) c.gates.ensures.gates in
    let before : length c.gates-in-loop.result.now ≡ length least.gates =
    ap (λ (l : List Gate). length l) c.gates-in-loop.ensures.gates in
    let fewer : length next.gates ≤ length least.gates = omega (arith, c.if-gates.false, after, before) in
    shrinks_further c.args.net.now least next c.loop.invariant c.in_ok-next.ensures fewer
