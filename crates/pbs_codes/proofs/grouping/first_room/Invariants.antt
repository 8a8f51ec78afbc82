use Rattle.std.proofs.Common.{◌≡◌, ℕ, ◌<◌, false, []}
use Rattle.std.specs.Prelude.{slice_index_or}
use Rattle.pbs_codes.specs.inner.Rooms.{has_room}
use Rattle.pbs_codes.proofs.grouping.first_room.Given as goal

abbrev pub invariant-loop-n : goal.invariant-loop-n
invariant-loop-n l = (m : ℕ) → m < l.n → has_room l.pairs (slice_index_or l.groups m []) l.place ≡ false
