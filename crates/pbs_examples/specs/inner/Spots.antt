-- The spots of nodes that no text gives.
use Rattle.std.specs.Prelude.{ℕ}
use Rattle.pbs_ast.specs.Trees.{Spot, spot_of}

-- node number n
abbrev pub at : ℕ → Spot
at n = spot_of (record { start = 0; end = 0 }) n
