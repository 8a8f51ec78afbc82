use Rattle.std.proofs.Common.{◌≡◌, ◌++◌, ℕ, drop, map}
use Rattle.std.specs.Global.{Vec}
use Rattle.pbs_check.specs.declared.graph.Link.{Link}
use Rattle.pbs_check.specs.inner.Links.{targets_of}
use Rattle.pbs_check.proofs.graph.all_targets.Given as goal

abbrev pub invariant-loop-links : goal.invariant-loop-links
invariant-loop-links l =
    map (λ (v : Vec ℕ). v.items) l.targets.items ++ map (λ (v : Vec Link). targets_of v.items)
    (drop l.links-index l.uses)
    ≡ map (λ (v : Vec Link). targets_of v.items) l.uses
