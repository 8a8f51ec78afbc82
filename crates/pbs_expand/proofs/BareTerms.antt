-- What a term with every box at one place means, and what stands in it.
use Rattle.std.proofs.Common.{◌≡◌, List, ◌∷◌, map, length, refl, ap, ap₂, ◌∙◌}
use Rattle.bool_terms.specs.Terms as bools
use Rattle.pbs_ast.specs.declared.syntax.Decl.{Decl}
use Rattle.pbs_ast.specs.declared.syntax.SpecTerm as terms
use Rattle.pbs_ast.specs.declared.syntax.SpecTerm.{SpecTerm, Row_of-SpecTerm, end_of-SpecTerm, more_of-SpecTerm}
use Rattle.pbs_ast.specs.Bare.{bare_term, bare_terms}
use Rattle.pbs_expand.specs.declared.terms.Connective.TheVariants.{AndOf, OrOf}
use Rattle.pbs_expand.specs.Written.{written, written_row, joined}
use Rattle.pbs_expand.proofs.TermRows.{row_list}

mutual
  pub written_bare : (inputs : List Decl) (t : SpecTerm) → written inputs (bare_term t) ≡ written inputs t
  written_bare inputs (terms.Const b) = refl
  written_bare inputs (terms.Name word at) = refl
  written_bare inputs (terms.Not' _ t) = ap bools.Not (written_bare inputs t)
  written_bare inputs (terms.All' n row) =
      ap (λ ts. joined (length ts) AndOf ts) (row_list inputs (bare_terms row) ∙ written_bare_row inputs _ row)
  written_bare inputs (terms.Any' n row) =
      ap (λ ts. joined (length ts) OrOf ts) (row_list inputs (bare_terms row) ∙ written_bare_row inputs _ row)
  written_bare inputs (terms.Equal word at n to) = refl

  written_bare_row : (inputs : List Decl) (n : _) (row : Row_of-SpecTerm n)
      → map (written inputs) (bare_terms row) ≡ written_row inputs row
  written_bare_row inputs n end_of-SpecTerm = refl
  written_bare_row inputs n (more_of-SpecTerm t rest) =
      ap₂ (λ u us. u ∷ us) (written_bare inputs t) (written_bare_row inputs _ rest)
