use Rattle.std.proofs.Common.{◌≡◌, ◌++◌, drop}
use Rattle.pbs_check.specs.inner.Links.{targets_of}
use Rattle.pbs_check.proofs.graph.targets_of.Given as goal

abbrev pub invariant-loop-link : goal.invariant-loop-link
invariant-loop-link l = l.targets.items ++ targets_of (drop l.link-index l.links) ≡ targets_of l.links
