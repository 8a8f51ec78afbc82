-- The first refusal of two.
use Rattle.std.specs.Prelude.{Option, Some, None}
use Rattle.pbs_base.specs.declared.refusal.Refusal.{Refusal}

-- what was found, or else what comes next
abbrev pub or_next : Option Refusal → Option Refusal → Option Refusal
or_next (Some r) next = Some r
or_next None next = next
