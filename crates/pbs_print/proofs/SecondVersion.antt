-- What can be written in some version can be written in version 2.
use Rattle.std.proofs.Common.{ℕ, zero, suc, Bool, true, false, not, List, [], ◌∷◌, refl}
use Rattle.pbs_ast.specs.declared.syntax.SpecTerm as node
use Rattle.pbs_ast.specs.declared.syntax.SpecTerm.{SpecTerm, Row_of-SpecTerm, end_of-SpecTerm, more_of-SpecTerm}
use Rattle.pbs_ast.specs.declared.syntax.Kind as kind
use Rattle.pbs_ast.specs.declared.syntax.Kind.{Kind, Row_of-Expr, end_of-Expr, more_of-Expr}
use Rattle.pbs_ast.specs.declared.syntax.Decl.{Decl}
use Rattle.pbs_ast.specs.declared.syntax.Prod.{Prod}
use Rattle.pbs_ast.specs.declared.syntax.Spec.{Spec}
use Rattle.pbs_ast.proofs.Items.{Each}
use Rattle.pbs_text.specs.Grammar.{Second}
use Rattle.pbs_print.specs.Canonical.{is_joined, is_wide, is_empty}
use Rattle.pbs_print.specs.Written.{of_version_2}
use Rattle.pbs_print.proofs.TextPieces.{InBrackets}
use Rattle.pbs_print.proofs.TermPieces as terms
use Rattle.pbs_print.proofs.TermPieces.{TermList, AllOf, AnyOf, TermIs, TermsAre}
use Rattle.pbs_print.proofs.ExprPieces as exprs
use Rattle.pbs_print.proofs.ExprPieces.{ExprList, SeqOf, ChoiceOf, KindIs, KindsAre}
use Rattle.pbs_print.proofs.LinePieces.{WidthIs, DeclIs, ProdIs, SpecIs}

second : (two : Bool) → Second two → Second true
second two h = tt

in_brackets : (b : Bool) (n : ℕ) (P Q R S : Type 0) → (P → R) → (Q → S) → InBrackets b n P Q → InBrackets b n R S
in_brackets true n P Q R S f g h = (h.0, g h.1)
in_brackets false n P Q R S f g h = f h

mutual
  term_second : (two : Bool) (n : ℕ) (t : SpecTerm) → TermIs two n t → TermIs true n t
  term_second two n (node.Const b) h = tt
  term_second two n (node.Name word at) h = h
  term_second two n (node.Not' _ t) h =
      (h.0, in_brackets (is_joined t) (suc n) _ _ _ _ (term_second two (suc n) t) (term_second two (suc (suc n)) t) h.1)
  term_second two n (node.All' k row) h = (h.0, terms_second two n AllOf row h.1)
  term_second two n (node.Any' k row) h = (h.0, terms_second two n AnyOf row h.1)
  term_second two n (node.Equal word at m to) h = (second two h.0, h.1, h.2)

  terms_second : (two : Bool) (n : ℕ) (l : TermList) {k : _} (row : Row_of-SpecTerm k) → TermsAre two n l row
      → TermsAre true n l row
  terms_second two n l end_of-SpecTerm h = tt
  terms_second two n l (more_of-SpecTerm t rest) h = (
    in_brackets (terms.wraps l t) n _ _ _ _ (term_second two n t) (term_second two (suc n) t) h.0,
    terms_second two n l rest h.1,
  )

mutual
  kind_second : (two : Bool) (n : ℕ) (e : Kind) → KindIs two n e → KindIs true n e
  kind_second two n kind.Empty h = h
  kind_second two n (kind.Terminal t) h = term_second two n t h
  kind_second two n (kind.Action word at) h = h
  kind_second two n (kind.Seq' k row) h = (h.0, kinds_second two n SeqOf row h.1)
  kind_second two n (kind.Choice' k row) h = (h.0, kinds_second two n ChoiceOf row h.1)
  kind_second two n (kind.Star' _ at e) h =
      in_brackets (is_wide e) n _ _ _ _ (kind_second two n e) (kind_second two (suc n) e) h
  kind_second two n (kind.Plus' _ at e) h =
      in_brackets (is_wide e) n _ _ _ _ (kind_second two n e) (kind_second two (suc n) e) h
  kind_second two n (kind.Opt' _ at e) h =
      in_brackets (is_wide e) n _ _ _ _ (kind_second two n e) (kind_second two (suc n) e) h
  kind_second two n (kind.Hold' t _ at e) h = (
    term_second two n t h.0,
    in_brackets (not (is_empty e)) n _ _ _ _ (kind_second two n e) (kind_second two (suc n) e) h.1,
  )
  kind_second two n (kind.Scope' _ at e _ at' x _ at'' y) h = (
    in_brackets (not (is_empty e)) n _ _ _ _ (kind_second two n e) (kind_second two (suc n) e) h.0,
    in_brackets (not (is_empty x)) n _ _ _ _ (kind_second two n x) (kind_second two (suc n) x) h.1,
    in_brackets (not (is_empty y)) n _ _ _ _ (kind_second two n y) (kind_second two (suc n) y) h.2,
  )
  kind_second two n (kind.Name word) h = h
  kind_second two n (kind.Repeat' _ at e i j) h =
      (second two h.0, in_brackets (is_wide e) n _ _ _ _ (kind_second two n e) (kind_second two (suc n) e) h.1, h.2, h.3)

  kinds_second : (two : Bool) (n : ℕ) (l : ExprList) {k : _} (row : Row_of-Expr k) → KindsAre two n l row
      → KindsAre true n l row
  kinds_second two n l end_of-Expr h = tt
  kinds_second two n l (more_of-Expr at e rest) h = (
    in_brackets (exprs.wraps l e) n _ _ _ _ (kind_second two n e) (kind_second two (suc n) e) h.0,
    kinds_second two n l rest h.1,
  )

width_second : (two : Bool) (n : ℕ) → WidthIs two n → WidthIs true n
width_second two zero h = tt
width_second two (suc n) h = (second two h.0, h.1)

decls_second : (two : Bool) (ds : List Decl) → Each (DeclIs two) ds → Each (DeclIs true) ds
decls_second two [] h = tt
decls_second two (d ∷ ds) h = ((h.0.0, width_second two d.width h.0.1), decls_second two ds h.1)

prods_second : (two : Bool) (ps : List Prod) → Each (ProdIs two) ps → Each (ProdIs true) ps
prods_second two [] h = tt
prods_second two (p ∷ ps) h = ((h.0.0, kind_second two 0 p.body.kind h.0.1), prods_second two ps h.1)

pub spec_second : (two : Bool) (spec : Spec) → SpecIs two spec → SpecIs true (of_version_2 spec)
spec_second two spec is = record {
  version = refl;
  inputs = decls_second two spec.inputs is.inputs;
  actions = is.actions;
  levels = is.levels;
  prods = prods_second two spec.prods is.prods;
  main = kind_second two 0 spec.main.kind is.main;
}
