use Rattle.std.proofs.Common.{take}
use Rattle.net_core.specs.Building.{input_pins}
use Rattle.net_encode.specs.inner.Drafts.{Grows}
use Rattle.net_encode.specs.inner.Sharing.{ShowsFront}
use Rattle.net_encode.specs.inner.Unread.{LeavesUnread}
use Rattle.net_encode.proofs.sharing.add_sources.Given as goal

abbrev pub invariant-loop-n : goal.invariant-loop-n
invariant-loop-n l =
    Grows l.fn.draft l.draft l.n (input_pins (take l.n l.others)) × ShowsFront l.draft l.n l.others l.wires
    × LeavesUnread l.fn.draft l.draft l.others l.wires
