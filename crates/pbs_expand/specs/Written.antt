-- The term that a written term stands for.
use Rattle.std.specs.Prelude.{ℕ, zero, suc, true, false, ◌+◌, ◌/◌, if◌then◌else◌, Option, Some, None, List, [], ◌∷◌}
use Rattle.std.specs.Prelude.{length, take, drop}
use Rattle.pbs_base.specs.Entries.{bit}
use Rattle.bool_terms.specs.Terms.{Term, Const, Input, Not, And, Or}
use Rattle.pbs_ast.specs.declared.syntax.Decl.{Decl}
use Rattle.pbs_ast.specs.declared.syntax.SpecTerm as terms
use Rattle.pbs_ast.specs.declared.syntax.SpecTerm.{Row_of-SpecTerm, end_of-SpecTerm, more_of-SpecTerm}
use Rattle.pbs_names.specs.declared.buses.Bus.{Bus}
use Rattle.pbs_names.specs.Naming.{input_names, index_of, bus_of}
use Rattle.pbs_expand.specs.declared.terms.Connective.{Connective}
use Rattle.pbs_expand.specs.declared.terms.Connective.TheVariants.{AndOf, OrOf}

abbrev pub named_term : Option ℕ → Term
named_term (Some n) = Input n
named_term None = Const false

abbrev pub empty_term : Connective → Term
empty_term AndOf = Const true
empty_term OrOf = Const false

abbrev pub both : Connective → Term → Term → Term
both AndOf t u = And t u
both OrOf t u = Or t u

-- the left part holds the first (n + 1) / 2 terms, and the right part the rest; to so many levels
abbrev pub joined : ℕ → Connective → List Term → Term
joined zero by ts = empty_term by
joined (suc room) by [] = empty_term by
joined (suc room) by (t ∷ []) = t
joined (suc room) by (t ∷ u ∷ ts) =
    let half = (length (t ∷ u ∷ ts) + 1) / 2 in
    both by (joined room by (take half (t ∷ u ∷ ts))) (joined room by (drop half (t ∷ u ∷ ts)))

-- the input where that bit of the number is 1, and else its negation
abbrev pub literal : ℕ → ℕ → ℕ → Term
literal start number k = if bit k number then Input (start + k) else Not (Input (start + k))

-- the literals of n bits, from bit k on
abbrev pub literals : ℕ → ℕ → ℕ → ℕ → List Term
literals start number k zero = []
literals start number k (suc n) = literal start number k ∷ literals start number (k + 1) n

-- a bus equals a number where each of its bits does
abbrev pub equal_term : Option Bus → ℕ → Term
equal_term (Some bus) number = (let ts = literals bus.start number 0 bus.width in joined (length ts) AndOf ts)
equal_term None number = Const false

-- the term that a written term stands for, with the inputs' numbers
abbrev mutual
  pub written : List Decl → terms.SpecTerm → Term
  written inputs (terms.Const b) = Const b
  written inputs (terms.Name word span) = named_term (index_of (input_names inputs) word)
  written inputs (terms.Not' _ t) = Not (written inputs t)
  written inputs (terms.All' n row) = (let ts = written_row inputs row in joined (length ts) AndOf ts)
  written inputs (terms.Any' n row) = (let ts = written_row inputs row in joined (length ts) OrOf ts)
  written inputs (terms.Equal word span number at) = equal_term (bus_of inputs word) number

  pub written_row : List Decl → {n : _} → Row_of-SpecTerm n → List Term
  written_row inputs end_of-SpecTerm = []
  written_row inputs (more_of-SpecTerm t rest) = written inputs t ∷ written_row inputs rest
