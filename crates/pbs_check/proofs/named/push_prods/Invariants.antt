use Rattle.std.proofs.Common.{◌≡◌, ◌++◌, drop}
use Rattle.pbs_check.specs.Declaring.{declared_prods}
use Rattle.pbs_check.proofs.named.push_prods.Given as goal

abbrev pub invariant-loop-prod : goal.invariant-loop-prod
invariant-loop-prod l = l.out.items ++ declared_prods (drop l.prod-index l.prod-items) ≡ l.initial.out.items ++
    declared_prods l.prods
