use Rattle.std.proofs.Common.{◌≡◌, ◌++◌, drop, map}
use Rattle.std.specs.Global.{Vec}
use Rattle.pbs_names.specs.Numbers.{number_in}
use Rattle.pbs_check.specs.declared.graph.Link.{Link}
use Rattle.pbs_check.specs.inner.Links.{links_of}
use Rattle.pbs_check.proofs.graph.uses_of.Given as goal

abbrev pub invariant-loop-prod : goal.invariant-loop-prod
invariant-loop-prod l =
    map (λ (v : Vec Link). v.items) l.uses.items ++ map (links_of (number_in l.numbers))
    (drop l.prod-index l.prod-items)
    ≡ map (links_of (number_in l.numbers)) l.prod-items
