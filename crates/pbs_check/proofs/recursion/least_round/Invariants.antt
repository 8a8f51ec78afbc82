use Rattle.std.proofs.Common.{◌≡◌, drop}
use Rattle.pbs_check.specs.inner.Circles.{round_span}
use Rattle.pbs_check.specs.Least.{least_of, least_by}
use Rattle.pbs_check.proofs.recursion.least_round.Given as goal

abbrev pub invariant-loop-link : goal.invariant-loop-link
invariant-loop-link l =
    least_of l.found (least_by (round_span l.roots l.root) (drop l.link-index l.links)) ≡ least_by
    (round_span l.roots l.root) l.links
