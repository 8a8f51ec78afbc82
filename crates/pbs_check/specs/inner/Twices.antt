-- The least place at which a name stands twice, found from the list's end.
use Rattle.std.specs.Prelude.{ℕ, ◌==◌, if◌then◌else◌, List, [], ◌∷◌, Option, Some, None}
use Rattle.std.specs.Cmp.Lexicographic.{pointwise}
use Rattle.pbs_base.specs.declared.refusal.Span.{Span}
use Rattle.pbs_check.specs.declared.named.Named.{Named}
use Rattle.pbs_check.specs.Least.{least_of, later_span}

-- the least place of a name
abbrev pub first_place : List ℕ → List Named → Option Span
first_place name [] = None
first_place name (x ∷ xs) = least_of (if pointwise ◌==◌ x.name name then Some x.span else None) (first_place name xs)

abbrev pub later_of : Option Span → Span → Option Span
later_of None span = None
later_of (Some s) span = Some (later_span s span)

abbrev pub first_twice : List Named → Option Span
first_twice [] = None
first_twice (x ∷ xs) = least_of (later_of (first_place x.name xs) x.span) (first_twice xs)
