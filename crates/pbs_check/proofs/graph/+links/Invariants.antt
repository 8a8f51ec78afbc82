use Rattle.std.proofs.Common.{◌≡◌, ◌++◌, drop}
use Rattle.pbs_names.specs.Numbers.{number_in}
use Rattle.pbs_check.specs.inner.Links.{links_in}
use Rattle.pbs_check.specs.inner.Walking.{inside_all}
use Rattle.pbs_check.proofs.graph.+links.Given as goal

abbrev pub invariant-push_all-loop-item : goal.invariant-push_all-loop-item
invariant-push_all-loop-item l =
    l.out.items ++ links_in (number_in l.numbers) (inside_all (drop l.item-index l.item-items))
    ≡ l.initial.out.items ++ links_in (number_in l.numbers) (inside_all l.item-items)
