-- Effective terms: the terms of all holds round a place, the outermost first, and then its own.
use Rattle.std.specs.Prelude.{ℕ, Bool, true, ◌&&◌, List, [], ◌∷◌, ◌++◌, slice_index_or}
use Rattle.bool_terms.specs.Terms.{Term, holds}
use Rattle.pbs_ast.specs.Trees.{Tree, Empty, Terminal, Action, Seq, Choice, Star, Hold, Scope}

abbrev pub under_hold : Term → List (List Term) → List (List Term)
under_hold t [] = []
under_hold t (ts ∷ rest) = (t ∷ ts) ∷ under_hold t rest

-- the effective terms of a tree's places, in order of places
abbrev pub effective_terms : Tree → List (List Term)
effective_terms (Empty at) = []
effective_terms (Terminal at p t) = (t ∷ []) ∷ []
effective_terms (Action at a) = []
effective_terms (Seq at e f) = effective_terms e ++ effective_terms f
effective_terms (Choice at e f) = effective_terms e ++ effective_terms f
effective_terms (Star at e) = effective_terms e
effective_terms (Hold at t e) = under_hold t (effective_terms e)
effective_terms (Scope at s e x h) = effective_terms e ++ (effective_terms x ++ effective_terms h)

abbrev pub all_true : List Term → ℕ → Bool
all_true [] v = true
all_true (t ∷ ts) v = holds t v && all_true ts v

-- the effective term of place p
abbrev pub effective_term : Tree → ℕ → List Term
effective_term main p = slice_index_or (effective_terms main) p []
