-- Terms written as bytes, so that equal lists of terms are equal words.
use Rattle.std.specs.Prelude.{◌≡◌, ℕ, ◌≤◌, true, false, List, [], ◌∷◌, ◌++◌, length, slice_get, Some, Contains, IsTrue}
use Rattle.bool_terms.specs.Terms.{Term, Const, Input, Not, And, Or, holds, term_of, term_inputs_below}
use Rattle.bool_terms.specs.declared.Term as declared
use Rattle.pbs_ast.specs.Trees.{Tree}
use Rattle.pbs_base.specs.Words.{AreDifferent}
use Rattle.pbs_edges.specs.Effective.{all_true, effective_terms}
use Rattle.pbs_edges.specs.declared.terms.TermTable.{TermTable}

abbrev pub code : Term → List ℕ
code (Const false) = 0 ∷ []
code (Const true) = 1 ∷ []
code (Input n) = 2 ∷ (n ∷ [])
code (Not t) = 3 ∷ code t
code (And a b) = 4 ∷ (code a ++ code b)
code (Or a b) = 5 ∷ (code a ++ code b)

abbrev pub code_all : List Term → List ℕ
code_all [] = []
code_all (t ∷ ts) = code t ++ code_all ts

-- the term is true where all terms of the list are that the word is written for
pub record Means (w : List ℕ) (t : declared.Term) : Type 0 where
  pub terms : List Term
  pub code : w ≡ code_all terms
  pub truth : (v : ℕ) → holds (term_of t) v ≡ all_true terms v
  pub inputs : IsTrue (term_inputs_below 64 (term_of t))

-- so does each term for its word
abbrev pub AllMean : List (List ℕ) → List declared.Term → Type 0
AllMean [] [] = Unit {0}
AllMean [] (t ∷ ts) = ⊥
AllMean (w ∷ ws) [] = ⊥
AllMean (w ∷ ws) (t ∷ ts) = Means w t × AllMean ws ts

-- each word is written for terms of the list, after what stands before them
abbrev pub AreCodes : List ℕ → List (List Term) → List (List ℕ) → Type 0
AreCodes front tss [] = Unit {0}
AreCodes front tss (w ∷ ws) = ((ts : List Term) × Contains tss ts × (w ≡ front ++ code_all ts)) × AreCodes front tss ws

-- the numbers of the words that are written for the terms of the list
abbrev pub AreNumbers : List (List ℕ) → List ℕ → List ℕ → List (List Term) → Type 0
AreNumbers words front [] [] = Unit {0}
AreNumbers words front [] (ts ∷ tss) = ⊥
AreNumbers words front (n ∷ ns) [] = ⊥
AreNumbers words front (n ∷ ns) (ts ∷ tss) =
    (slice_get words n ≡ Some (front ++ code_all ts)) × AreNumbers words front ns tss

-- the table got the words of these terms, each after the front; where there are more than 256 words it may lack some
pub record Adds (front : List ℕ) (tss : List (List Term)) (old new : TermTable) : Type 0 where
  pub words : List (List ℕ)
  pub numbers : List ℕ
  pub codes : new.codes ≡ old.codes ++ words
  pub of_place : new.of_place ≡ old.of_place ++ numbers
  pub only : AreCodes front tss words
  pub all : length new.codes ≤ 256 → AreNumbers new.codes front numbers tss

-- the table of the tree's effective terms; where there are more than 256 words it may lack some
pub record IsTermTable (main : Tree) (table : TermTable) : Type 0 where
  pub mean : AllMean table.codes table.terms
  pub different : AreDifferent table.codes
  pub only : AreCodes [] (effective_terms main) table.codes
  pub all : length table.codes ≤ 256 → AreNumbers table.codes [] table.of_place (effective_terms main)
