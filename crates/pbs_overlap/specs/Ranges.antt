-- The numbers of terminals, and the ranges of node numbers of scopes.
use Rattle.std.specs.Prelude.{ℕ, List, [], ◌∷◌, ◌++◌, Option, Some, None, nat_eq, if◌then◌else◌}
use Rattle.pbs_base.specs.declared.refusal.Span.{Span}
use Rattle.pbs_ast.specs.Trees.{Tree, Empty, Terminal, Action, Seq, Choice, Star, Hold, Scope}
use Rattle.pbs_ast.specs.Sound.{or_else}
use Rattle.pbs_overlap.specs.declared.ranges.ScopeRange.{ScopeRange}

-- the tree's own number
abbrev pub number_of : Tree → ℕ
number_of (Empty at) = at.number
number_of (Terminal at p t) = at.number
number_of (Action at a) = at.number
number_of (Seq at e f) = at.number
number_of (Choice at e f) = at.number
number_of (Star at e) = at.number
number_of (Hold at t e) = at.number
number_of (Scope at s e x h) = at.number

-- the numbers of the terminals, in order of places
abbrev pub leaves : Tree → List ℕ
leaves (Empty at) = []
leaves (Terminal at p t) = at.number ∷ []
leaves (Action at a) = []
leaves (Seq at e f) = leaves e ++ leaves f
leaves (Choice at e f) = leaves e ++ leaves f
leaves (Star at e) = leaves e
leaves (Hold at t e) = leaves e
leaves (Scope at s e x h) = leaves e ++ (leaves x ++ leaves h)

-- the scopes, in the order of their numbers
abbrev pub ranges : Tree → List ScopeRange
ranges (Empty at) = []
ranges (Terminal at p t) = []
ranges (Action at a) = []
ranges (Seq at e f) = ranges e ++ ranges f
ranges (Choice at e f) = ranges e ++ ranges f
ranges (Star at e) = ranges e
ranges (Hold at t e) = ranges e
ranges (Scope at s e x h) =
    (record { span = at.span; body = number_of e; trap = number_of x; after = number_of h })
    ∷ (ranges e ++ (ranges x ++ ranges h))

-- the span of scope s
abbrev pub scope_span : ℕ → Tree → Option Span
scope_span s (Empty at) = None
scope_span s (Terminal at p t) = None
scope_span s (Action at a) = None
scope_span s (Seq at e f) = or_else (scope_span s e) (scope_span s f)
scope_span s (Choice at e f) = or_else (scope_span s e) (scope_span s f)
scope_span s (Star at e) = scope_span s e
scope_span s (Hold at t e) = scope_span s e
scope_span s (Scope at n e x h) = if nat_eq s n then Some at.span
    else or_else (scope_span s e) (or_else (scope_span s x) (scope_span s h))
