use Rattle.std.proofs.Common.{◌≡◌, drop}
use Rattle.pbs_check.specs.Least.{least_of, least_by}
use Rattle.pbs_check.specs.inner.Walking.{own_broken, inside_prods}
use Rattle.pbs_check.proofs.walks.prods_broken.Given as goal

abbrev pub invariant-loop-prod : goal.invariant-loop-prod
invariant-loop-prod l =
    least_of l.found (least_by (own_broken l.look l.tables l.inputs) (inside_prods (drop l.prod-index l.prod-items)))
    ≡ least_by (own_broken l.look l.tables l.inputs) (inside_prods l.prod-items)
