use Rattle.std.proofs.Common.{◌≡◌, ◌++◌, take}
use Rattle.pbs_edges.specs.Listed.{edges_between}
use Rattle.pbs_edges.proofs.ends.push_between.Given as goal

abbrev pub invariant-loop-from : goal.invariant-loop-from
invariant-loop-from l =
    l.out.items ≡ l.initial.out.items ++ edges_between l.node (take l.from-index l.froms) l.tos
