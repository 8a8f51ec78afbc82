use Rattle.std.proofs.Common.{◌≡◌, ◌*◌, length, take}
use Rattle.net_core.specs.Rows.{value}
use Rattle.net_core.specs.Circuits.{wire_at}
use Rattle.net_encode.specs.Codes.{code_registers}
use Rattle.net_encode.specs.inner.Columns.{code_bits}
use Rattle.net_encode.specs.inner.Drafts.{Grows}
use Rattle.net_encode.specs.inner.Sharing.{ShowsBits, member_count}
use Rattle.net_encode.specs.inner.Unread.{LeavesUnread}
use Rattle.net_encode.proofs.sharing.add_groups.Given as goal

abbrev pub invariant-loop-n : goal.invariant-loop-n
invariant-loop-n l =
    Grows l.fn.draft l.draft (3 * member_count (take l.n l.groups)) 0
    × ShowsBits l.draft l.wires (λ row. code_bits (λ p. value row (wire_at l.sources p)) (take l.n l.groups))
    × (length l.wires ≡ code_registers (take l.n l.groups))
    × LeavesUnread l.fn.draft l.draft l.sources l.wires
