use Rattle.std.proofs.Common.{◌≡◌, drop}
use Rattle.pbs_codes.specs.inner.Rooms.{meets}
use Rattle.pbs_codes.proofs.grouping.meets.Given as goal

abbrev pub invariant-loop-member : goal.invariant-loop-member
invariant-loop-member l = meets l.pairs (drop l.member-index l.group) l.place ≡ meets l.pairs l.group l.place
