-- What a scope tells the nodes above it, from what its parts tell.
use Rattle.std.specs.Prelude.{Bool, not, ◌&&◌, ◌||◌}

-- whether the scope ends: the body does and is not aborted, or the after part does, or an abort begins an after part
-- that may be empty
abbrev pub ends_after_abort : Bool → Bool → Bool → Bool → Bool
ends_after_abort body trap after empty = (body && not trap) || (after || (trap && empty))

-- whether the scope stays: the body does and is not aborted, or the after part does, or an abort begins an after part
-- that has a terminal
abbrev pub stays_after_abort : Bool → Bool → Bool → Bool → Bool
stays_after_abort body trap after terminal = (body && not trap) || (after || (trap && terminal))
