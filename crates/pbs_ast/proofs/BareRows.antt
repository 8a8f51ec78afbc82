-- Lists of which an expression or a term is made, and the same ones with every box at one place.
use Rattle.std.proofs.Common.{◌≡◌, List, ◌∷◌, map, refl, ap, ◌∙◌}
use Rattle.pbs_ast.specs.declared.syntax.SpecTerm.{SpecTerm, Row_of-SpecTerm, end_of-SpecTerm, more_of-SpecTerm}
use Rattle.pbs_ast.specs.declared.syntax.SpecTerm.{items-the_row-SpecTerm, items_hidden-the_row-SpecTerm-0}
use Rattle.pbs_ast.specs.declared.syntax.SpecTerm.TheBlock.{hidden-the_row-SpecTerm-0}
use Rattle.pbs_ast.specs.declared.syntax.Expr.{Expr}
use Rattle.pbs_ast.specs.declared.syntax.Kind.{Row_of-Expr, end_of-Expr, more_of-Expr, items-the_row-Expr}
use Rattle.pbs_ast.specs.declared.syntax.Kind.{items_hidden-the_row-Expr-0}
use Rattle.pbs_ast.specs.declared.syntax.Kind.TheBlock.{hidden-the_row-Expr-0}
use Rattle.pbs_ast.specs.Bare.{expr, bare_term, bare_terms, bare_kind, bare_exprs, bare_expr}

pub bare_terms_is : (n : _) (row : Row_of-SpecTerm n) → bare_terms row ≡ map bare_term (items-the_row-SpecTerm n row)
bare_terms_is n end_of-SpecTerm = refl
bare_terms_is n (more_of-SpecTerm t rest) = ap (λ ts. bare_term t ∷ ts) (bare_terms_is _ rest)

pub bare_exprs_is : (n : _) (row : Row_of-Expr n) → bare_exprs row ≡ map bare_expr (items-the_row-Expr n row)
bare_exprs_is n end_of-Expr = refl
bare_exprs_is n (more_of-Expr at e rest) = ap (λ es. expr at (bare_kind e) ∷ es) (bare_exprs_is _ rest)

pub bare_terms_of : (xs : List SpecTerm) → bare_terms (hidden-the_row-SpecTerm-0 xs) ≡ map bare_term xs
bare_terms_of xs =
    bare_terms_is _ (hidden-the_row-SpecTerm-0 xs) ∙ ap (map bare_term) (items_hidden-the_row-SpecTerm-0 xs)

pub bare_exprs_of : (xs : List Expr) → bare_exprs (hidden-the_row-Expr-0 xs) ≡ map bare_expr xs
bare_exprs_of xs = bare_exprs_is _ (hidden-the_row-Expr-0 xs) ∙ ap (map bare_expr) (items_hidden-the_row-Expr-0 xs)
