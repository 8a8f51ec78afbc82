use Rattle.std.proofs.Common.{◌≡◌, ◌+◌, ◌*◌, ◌++◌, ◌∷◌, [], List, Bool, length, take}
use Rattle.std.proofs.Common.{ℕ}
use Rattle.net_core.specs.declared.gate.Wire.{Wire}
use Rattle.net_core.specs.Rows.{Row, value}
use Rattle.net_core.specs.Circuits.{wire_at}
use Rattle.net_encode.specs.inner.Drafts.{Grows}
use Rattle.net_encode.specs.inner.Columns.{column}
use Rattle.net_encode.specs.inner.Sharing.{ShowsBits}
use Rattle.net_encode.specs.inner.Unread.{LeavesUnread}
use Rattle.net_encode.proofs.sharing.add_group.Given as goal

abbrev three_columns : List Wire → List ℕ → Row → List Bool
three_columns sources members row =
    column (λ p. value row (wire_at sources p)) 0 1 members ∷ column (λ p. value row (wire_at sources p)) 1 1 members
    ∷ column (λ p. value row (wire_at sources p)) 2 1 members ∷ []

abbrev pub invariant-loop-t : goal.invariant-loop-t
invariant-loop-t l =
    Grows l.fn.draft l.draft (l.t * length l.members) 0
    × ((bits_of : Row → List Bool) → ShowsBits l.fn.draft l.fn.wires bits_of
    → ShowsBits l.draft l.wires (λ row. bits_of row ++ take l.t (three_columns l.sources l.members row)))
    × (length l.wires ≡ length l.fn.wires + l.t)
    × LeavesUnread l.fn.draft l.draft (l.sources ++ l.fn.wires) l.wires
