use Rattle.std.proofs.Common.{◌≡◌, take}
use Rattle.pbs_edges.proofs.finding.listed_edges.Given as goal

abbrev pub invariant-loop-edge : goal.invariant-loop-edge
invariant-loop-edge l = l.list ≡ take l.edge-index l.edges
