use Rattle.std.proofs.Common.{◌≡◌, drop}
use Rattle.pbs_check.specs.Least.{least_of, least_by}
use Rattle.pbs_check.specs.inner.Walking.{leaf_broken, all_leaves}
use Rattle.pbs_check.proofs.uses.+term.Given as goal

abbrev pub invariant-items_broken-loop-item : goal.invariant-items_broken-loop-item
invariant-items_broken-loop-item l =
    least_of l.found (least_by (leaf_broken l.look l.tables l.inputs) (all_leaves (drop l.item-index l.item-items)))
    ≡ least_by (leaf_broken l.look l.tables l.inputs) (all_leaves l.item-items)
