-- What has its boxes at one place keeps them there.
use Rattle.std.proofs.Common.{◌≡◌, List, [], ◌∷◌, map, refl, ap, ap₂, ◌∙◌}
use Rattle.pbs_ast.specs.declared.syntax.SpecTerm as terms
use Rattle.pbs_ast.specs.declared.syntax.SpecTerm.{SpecTerm, Row_of-SpecTerm, end_of-SpecTerm, more_of-SpecTerm}
use Rattle.pbs_ast.specs.declared.syntax.Expr.{Expr}
use Rattle.pbs_ast.specs.declared.syntax.Prod.{Prod}
use Rattle.pbs_ast.specs.declared.syntax.Kind as kind
use Rattle.pbs_ast.specs.declared.syntax.Kind.{Kind, Row_of-Expr, end_of-Expr, more_of-Expr}
use Rattle.pbs_ast.specs.Bare.{expr, no_place, bare_term, bare_terms, bare_kind, bare_exprs, bare_expr, bare_prod}
use Rattle.pbs_ast.proofs.BareRows.{bare_terms_of, bare_exprs_of}

mutual
  pub term_twice : (t : SpecTerm) → bare_term (bare_term t) ≡ bare_term t
  term_twice (terms.Const b) = refl
  term_twice (terms.Name word at) = refl
  term_twice (terms.Not' _ t) = ap (terms.Not' no_place) (term_twice t)
  term_twice (terms.All' n row) = ap terms.All (bare_terms_of (bare_terms row) ∙ terms_twice _ row)
  term_twice (terms.Any' n row) = ap terms.Any (bare_terms_of (bare_terms row) ∙ terms_twice _ row)
  term_twice (terms.Equal word at n to) = refl

  terms_twice : (n : _) (row : Row_of-SpecTerm n) → map bare_term (bare_terms row) ≡ bare_terms row
  terms_twice n end_of-SpecTerm = refl
  terms_twice n (more_of-SpecTerm t rest) = ap₂ (λ u us. u ∷ us) (term_twice t) (terms_twice _ rest)

mutual
  kind_twice : (k : Kind) → bare_kind (bare_kind k) ≡ bare_kind k
  kind_twice kind.Empty = refl
  kind_twice (kind.Terminal t) = ap kind.Terminal (term_twice t)
  kind_twice (kind.Action word at) = refl
  kind_twice (kind.Seq' n row) = ap kind.Seq (bare_exprs_of (bare_exprs row) ∙ exprs_twice _ row)
  kind_twice (kind.Choice' n row) = ap kind.Choice (bare_exprs_of (bare_exprs row) ∙ exprs_twice _ row)
  kind_twice (kind.Star' _ at e) = ap (kind.Star' no_place at) (kind_twice e)
  kind_twice (kind.Plus' _ at e) = ap (kind.Plus' no_place at) (kind_twice e)
  kind_twice (kind.Opt' _ at e) = ap (kind.Opt' no_place at) (kind_twice e)
  kind_twice (kind.Hold' t _ at e) = ap₂ (λ u d. kind.Hold' u no_place at d) (term_twice t) (kind_twice e)
  kind_twice (kind.Scope' _ at e _ at' x _ at'' h) =
      ap₂ (λ d y. kind.Scope' no_place at d no_place at' y no_place at'' (bare_kind (bare_kind h))) (kind_twice e)
      (kind_twice x)
      ∙ ap (kind.Scope' no_place at (bare_kind e) no_place at' (bare_kind x) no_place at'') (kind_twice h)
  kind_twice (kind.Name word) = refl
  kind_twice (kind.Repeat' _ at e m n) = ap (λ d. kind.Repeat' no_place at d m n) (kind_twice e)

  exprs_twice : (n : _) (row : Row_of-Expr n) → map bare_expr (bare_exprs row) ≡ bare_exprs row
  exprs_twice n end_of-Expr = refl
  exprs_twice n (more_of-Expr at e rest) =
      ap₂ (λ k es. expr at k ∷ es) (kind_twice e) (exprs_twice _ rest)

pub expr_twice : (e : Expr) → bare_expr (bare_expr e) ≡ bare_expr e
expr_twice e = ap (expr e.span) (kind_twice e.kind)

pub all_twice : (es : List Expr) → map bare_expr (map bare_expr es) ≡ map bare_expr es
all_twice [] = refl
all_twice (e ∷ es) = ap₂ (λ d ds. d ∷ ds) (expr_twice e) (all_twice es)

prod_twice : (p : Prod) → bare_prod (bare_prod p) ≡ bare_prod p
prod_twice p =
    let with_body = λ (e : Expr). (let q : Prod = record { name = p.name; span = p.span; body = e } in q) in
    ap with_body (expr_twice p.body)

pub prods_twice : (ps : List Prod) → map bare_prod (map bare_prod ps) ≡ map bare_prod ps
prods_twice [] = refl
prods_twice (p ∷ ps) = ap₂ (λ q qs. q ∷ qs) (prod_twice p) (prods_twice ps)
