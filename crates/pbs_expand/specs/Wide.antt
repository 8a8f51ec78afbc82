-- Rule 13: the inputs of effective terms.
use Rattle.std.specs.Prelude.{ℕ, Bool, false, ◌||◌, nat_lt, List, [], ◌∷◌, ◌++◌, count_by, Option}
use Rattle.std.specs.List.{find, range_with_len}
use Rattle.std.specs.Option.{option_map}
use Rattle.pbs_base.specs.declared.refusal.Span.{Span}
use Rattle.bool_terms.specs.Terms.{Term, mentions}
use Rattle.pbs_ast.specs.Trees.{Tree, Empty, Terminal, Action, Seq, Choice, Star, Hold, Scope}

-- a place: its span, its own term, and the terms of all holds round it
pub record Place : Type 0 where
  pub span : Span
  pub terms : List Term

-- the places of a tree in order, where it stands in holds of these terms
abbrev pub places_in : List Term → Tree → List Place
places_in holds (Empty at) = []
places_in holds (Terminal at p t) = record { span = at.span; terms = t ∷ holds } ∷ []
places_in holds (Action at a) = []
places_in holds (Seq at e f) = places_in holds e ++ places_in holds f
places_in holds (Choice at e f) = places_in holds e ++ places_in holds f
places_in holds (Star at e) = places_in holds e
places_in holds (Hold at t e) = places_in (t ∷ holds) e
places_in holds (Scope at s e x h) = places_in holds e ++ (places_in holds x ++ places_in holds h)

abbrev pub mentioned : ℕ → List Term → Bool
mentioned n [] = false
mentioned n (t ∷ ts) = mentions n t || mentioned n ts

-- how many of the 64 inputs stand in the terms
unfoldable pub distinct_inputs : List Term → ℕ
distinct_inputs ts = count_by (λ n. mentioned n ts) (range_with_len 0 64)

-- the span of the first place whose effective term has more than 10 distinct inputs
abbrev pub first_too_wide : Tree → Option Span
first_too_wide tree =
    option_map (λ p. p.span) (find (λ (p : Place). nat_lt 10 (distinct_inputs p.terms)) (places_in [] tree))
