use Rattle.std.proofs.Common.{◌+◌, drop}
use Rattle.pbs_check.specs.Least.{least_by}
use Rattle.pbs_check.specs.inner.Walking.{own_broken, inside, inside_prods}
use Rattle.pbs_check.proofs.LeastLemmas.{least_step}
use Rattle.pbs_check.proofs.WalkLemmas.{prods_at}
use Rattle.pbs_check.proofs.walks.prods_broken.Goals as goal

pub loop-prod-preserved : goal.loop-prod-preserved
loop-prod-preserved c =
    let ps = c.as_slice-prod-items.result.now in let i = c.loop-prod.prod-index in let p = c.prod-item.result in let f
    = own_broken c.args.look c.args.tables.now c.args.inputs.now in
    least_step f (least_by f (inside_prods ps)) c.expr_broken.result c.loop-prod.found c.least_of-found.result
    (inside_prods (drop i ps)) (inside p.body) (inside_prods (drop (i + 1) ps))
    (prods_at ps i p c.loop-prod-test.true c.prod-item.is) c.loop-prod.invariant c.expr_broken.ensures
    c.least_of-found.ensures
