use Rattle.std.proofs.Common.{take}
use Rattle.pbs_ast.specs.Trees.{Tree}
use Rattle.pbs_overlap.specs.Told.{TellsTogether}
use Rattle.pbs_codes.specs.Groups.{Grouped}
use Rattle.pbs_codes.specs.inner.Rooms.{AreWithin}
use Rattle.pbs_codes.proofs.grouping.grouped.Given as goal

abbrev pub invariant-loop-leader : goal.invariant-loop-leader
invariant-loop-leader l = AreWithin l.pairs (l.groups).items × ((main : Tree) → TellsTogether main l.pairs
    → Grouped main (take l.leader-index l.leaders) (l.groups).items)
