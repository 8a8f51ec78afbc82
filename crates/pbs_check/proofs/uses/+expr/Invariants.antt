use Rattle.std.proofs.Common.{◌≡◌, drop}
use Rattle.pbs_check.specs.Least.{least_of, least_by}
use Rattle.pbs_check.specs.inner.Walking.{own_broken, inside_all}
use Rattle.pbs_check.proofs.uses.+expr.Given as goal

abbrev pub invariant-all_broken-loop-item : goal.invariant-all_broken-loop-item
invariant-all_broken-loop-item l =
    least_of l.found (least_by (own_broken l.look l.tables l.inputs) (inside_all (drop l.item-index l.item-items)))
    ≡ least_by (own_broken l.look l.tables l.inputs) (inside_all l.item-items)
