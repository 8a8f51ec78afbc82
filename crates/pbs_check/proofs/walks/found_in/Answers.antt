use Rattle.pbs_check.specs.Least.{least_by}
use Rattle.pbs_check.specs.inner.Walking.{own_broken, level_broken, inside, inside_prods}
use Rattle.pbs_check.proofs.LeastLemmas.{two_least}
use Rattle.pbs_check.proofs.walks.found_in.Goals as goal

pub returns : goal.returns
returns c =
    let spec = c.args.spec.now in
    two_least (own_broken c.args.look c.args.tables.now spec.inputs) (inside_prods spec.prods) (inside spec.main)
    c.prods_broken-prods.result c.expr_broken-main.result c.levels_broken-levels.result
    (least_by (level_broken c.args.look c.args.tables.now) spec.levels) c.least_of.result c.least_of-2.result
    c.prods_broken-prods.ensures c.expr_broken-main.ensures c.levels_broken-levels.ensures c.least_of.ensures
    c.least_of-2.ensures
