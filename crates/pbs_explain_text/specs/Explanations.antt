-- The text that says why an action fired: what its derivation consumed, item by item.
use Rattle.std.specs.Prelude.{ℕ, ◌+◌, List, [], ◌∷◌, ◌++◌, codes, decimal, Option, Some, None, slice_get}
use Rattle.pbs_base.specs.declared.refusal.Span.{Span}
use Rattle.pbs_ast.specs.Trees.{Tree, Empty, Terminal, Action, Seq, Choice, Star, Hold, Scope}
use Rattle.pbs_explain.specs.declared.derivation.Item.{Item}
use Rattle.pbs_explain.specs.declared.derivation.Item.TheVariants.{Take, Cut}
use Rattle.pbs_explain.specs.declared.derivation.Derivation.{Derivation}

-- the spans of all nodes, in the order of visits
abbrev pub node_spans : Tree → List Span
node_spans (Empty at) = at.span ∷ []
node_spans (Terminal at p t) = at.span ∷ []
node_spans (Action at a) = at.span ∷ []
node_spans (Seq at e f) = at.span ∷ (node_spans e ++ node_spans f)
node_spans (Choice at e f) = at.span ∷ (node_spans e ++ node_spans f)
node_spans (Star at e) = at.span ∷ node_spans e
node_spans (Hold at t e) = at.span ∷ node_spans e
node_spans (Scope at s e x h) = at.span ∷ (node_spans e ++ (node_spans x ++ node_spans h))

-- the spans of the terminals, in order of places
abbrev pub place_spans : Tree → List Span
place_spans (Empty at) = []
place_spans (Terminal at p t) = at.span ∷ []
place_spans (Action at a) = []
place_spans (Seq at e f) = place_spans e ++ place_spans f
place_spans (Choice at e f) = place_spans e ++ place_spans f
place_spans (Star at e) = place_spans e
place_spans (Hold at t e) = place_spans e
place_spans (Scope at s e x h) = place_spans e ++ (place_spans x ++ place_spans h)

-- the spans of the scopes, in order of their numbers
abbrev pub scope_spans : Tree → List Span
scope_spans (Empty at) = []
scope_spans (Terminal at p t) = []
scope_spans (Action at a) = []
scope_spans (Seq at e f) = scope_spans e ++ scope_spans f
scope_spans (Choice at e f) = scope_spans e ++ scope_spans f
scope_spans (Star at e) = scope_spans e
scope_spans (Hold at t e) = scope_spans e
scope_spans (Scope at s e x h) = at.span ∷ (scope_spans e ++ (scope_spans x ++ scope_spans h))

abbrev pub span_or_none : Option Span → Span
span_or_none None = record { start = 0; end = 0 }
span_or_none (Some span) = span

-- the span with this number; 0..0 where the list has none
abbrev pub span_at : List Span → ℕ → Span
span_at spans n = span_or_none (slice_get spans n)

abbrev pub span_text : Span → List ℕ
span_text span = decimal span.start ++ (codes ".." ++ decimal span.end)

-- the position at which an item ends that begins at i
abbrev pub item_end : ℕ → Item → ℕ
item_end i (Take p) = i + 1
item_end i (Cut s m) = m

abbrev pub two_numbers : ℕ → ℕ → List ℕ
two_numbers i m = decimal i ++ (codes " " ++ decimal m)

-- place p took the vector at position i
abbrev pub take_line : List Span → ℕ → ℕ → List ℕ
take_line places i p =
    codes "take " ++ (two_numbers i p ++ (codes " " ++ (span_text (span_at places p) ++ codes "\n")))

-- scope s, begun at position i, was cut off at position m
abbrev pub cut_line : List Span → ℕ → ℕ → ℕ → List ℕ
cut_line scopes i m s =
    codes "cut " ++ (two_numbers i m ++ (codes " " ++ (decimal s ++ (codes " " ++ (span_text (span_at scopes s)
    ++ codes "\n")))))

-- an item that begins at position i, with the spans of the places and of the scopes
abbrev pub item_line : List Span → List Span → ℕ → Item → List ℕ
item_line places scopes i (Take p) = take_line places i p
item_line places scopes i (Cut s m) = cut_line scopes i m s

-- the lines of items, the first of which begins at position i
abbrev pub item_lines : List Span → List Span → ℕ → List Item → List ℕ
item_lines places scopes i [] = []
item_lines places scopes i (x ∷ xs) = item_line places scopes i x ++ item_lines places scopes (item_end i x) xs

-- the row, the action's name and the span of its node
abbrev pub front_line : ℕ → List ℕ → Span → List ℕ
front_line row name span =
    codes "fires " ++ (decimal row ++ (codes " " ++ (name ++ (codes " at " ++ (span_text span ++ codes "\n")))))

-- the front, a line for each item, and `end`
abbrev pub explanation_text : Tree → ℕ → List ℕ → Derivation → List ℕ
explanation_text main row name d =
    front_line row name (span_at (node_spans main) d.node)
    ++ (item_lines (place_spans main) (scope_spans main) 0 d.items ++ codes "end\n")

-- the one line where the action doesn't fire in the row
abbrev pub silence_text : ℕ → List ℕ → List ℕ
silence_text row name = decimal row ++ (codes " " ++ (name ++ codes " does not fire\n"))
