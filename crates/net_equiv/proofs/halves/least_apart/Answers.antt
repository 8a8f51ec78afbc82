use Rattle.net_core.specs.Rows.{value}
use Rattle.net_equiv.specs.inner.Halves.{half_view}
use Rattle.net_equiv.proofs.Telling.{least_told, tells_kept}
use Rattle.net_equiv.proofs.halves.least_apart.Goals as goal

pub returns-clause-apart : goal.returns-clause-apart
returns-clause-apart c =
    let va = half_view c.args.a.now c.args.vars.now c.args.reset in
    let vb = half_view c.args.b.now c.args.vars.now c.args.reset in
    let s1 = c.root_node.new.store in
    let s2 = c.root_node-2.new.store in
    least_told s2 c.unlike.new.store va vb c.args.a.now.root c.args.b.now.root c.in_ok-a_node.a_node
    c.in_ok-b_node.b_node c.in_ok-apart.apart c.least.result
    (tells_kept s1 s2 va (λ z. value z c.args.a.now.root) c.in_ok-a_node.a_node c.root_node-2.ensures.keeps
    c.in_ok-a_node.ensures.tells)
    c.in_ok-b_node.ensures.tells c.in_ok-apart.ensures.stands c.least.ensures
