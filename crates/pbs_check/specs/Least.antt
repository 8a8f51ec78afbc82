-- Spans by their start, then their end.
use Rattle.std.specs.Prelude.{Bool, ◌&&◌, ◌||◌, nat_eq, nat_lt, nat_le, if◌then◌else◌, IsTrue, List, [], ◌∷◌, Option}
use Rattle.std.specs.Prelude.{Some, None}
use Rattle.pbs_base.specs.declared.refusal.Span.{Span}

-- the first span has the smaller start, or the same start and no greater end
abbrev pub span_le : Span → Span → Bool
span_le a b = nat_lt a.start b.start || (nat_eq a.start b.start && nat_le a.end b.end)

abbrev pub later_span : Span → Span → Span
later_span a b = if span_le a b then b else a

abbrev pub earlier_span : Span → Span → Span
earlier_span a b = if span_le a b then a else b

-- the least of the spans at which something is broken
abbrev pub IsLeast : (Span → Type 0) → Option Span → Type 0
IsLeast Broken None = (span : Span) → Broken span → ⊥
IsLeast Broken (Some least) = Broken least × ((span : Span) → Broken span → IsTrue (span_le least span))

abbrev pub least_of : Option Span → Option Span → Option Span
least_of None b = b
least_of (Some s) None = Some s
least_of (Some s) (Some t) = Some (earlier_span s t)

-- the least that the items give
abbrev pub least_by : {X : Type 0} → (X → Option Span) → List X → Option Span
least_by found [] = None
least_by found (x ∷ xs) = least_of (found x) (least_by found xs)
