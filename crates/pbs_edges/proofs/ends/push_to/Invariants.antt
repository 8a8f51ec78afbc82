use Rattle.std.proofs.Common.{◌≡◌, ◌++◌, take}
use Rattle.pbs_edges.specs.Listed.{edges_to}
use Rattle.pbs_edges.proofs.ends.push_to.Given as goal

abbrev pub invariant-loop-to : goal.invariant-loop-to
invariant-loop-to l = l.out.items ≡ l.initial.out.items ++ edges_to l.node l.from (take l.to-index l.tos)
