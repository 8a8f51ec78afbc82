use Rattle.std.proofs.Common.{[], ◌∷◌, take}
use Rattle.net_core.specs.Rows.{value}
use Rattle.net_core.specs.Circuits.{wire_at}
use Rattle.net_encode.specs.inner.Columns.{column}
use Rattle.net_encode.specs.inner.Drafts.{Draws}
use Rattle.net_encode.specs.inner.Unread.{LeavesUnread}
use Rattle.net_encode.proofs.sharing.add_column.Given as goal

abbrev pub invariant-loop-n : goal.invariant-loop-n
invariant-loop-n l =
    Draws l.fn.draft l.draft l.wire l.n 0
    (λ row. column (λ p. value row (wire_at l.sources p)) l.t 1 (take l.n l.members))
    × LeavesUnread l.fn.draft l.draft l.sources (l.wire ∷ [])
