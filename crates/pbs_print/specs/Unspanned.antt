-- A specification apart from its spans: each is empty at the text's start, and each box is at one place.
use Rattle.std.specs.Prelude.{List, [], ◌∷◌, map}
use Rattle.pbs_base.specs.declared.refusal.Span.{Span}
use Rattle.pbs_ast.specs.declared.syntax.SpecTerm as term
use Rattle.pbs_ast.specs.declared.syntax.SpecTerm.{SpecTerm, Row_of-SpecTerm, end_of-SpecTerm, more_of-SpecTerm}
use Rattle.pbs_ast.specs.declared.syntax.Kind as kind
use Rattle.pbs_ast.specs.declared.syntax.Kind.{Kind, Row_of-Expr, end_of-Expr, more_of-Expr}
use Rattle.pbs_ast.specs.declared.syntax.Expr.{Expr}
use Rattle.pbs_ast.specs.declared.syntax.Decl.{Decl}
use Rattle.pbs_ast.specs.declared.syntax.Set.{Set}
use Rattle.pbs_ast.specs.declared.syntax.Level.{Level}
use Rattle.pbs_ast.specs.declared.syntax.Prod.{Prod}
use Rattle.pbs_ast.specs.declared.syntax.Spec.{Spec}
use Rattle.pbs_ast.specs.Bare.{no_place, expr}

abbrev pub no_span : Span
no_span = record { start = 0; end = 0 }

abbrev mutual
  pub unspanned_term : SpecTerm → SpecTerm
  unspanned_term (term.Const b) = term.Const b
  unspanned_term (term.Name word at) = term.Name word no_span
  unspanned_term (term.Not' _ t) = term.Not' no_place (unspanned_term t)
  unspanned_term (term.All' n row) = term.All (unspanned_terms row)
  unspanned_term (term.Any' n row) = term.Any (unspanned_terms row)
  unspanned_term (term.Equal word at n to) = term.Equal word no_span n no_span

  pub unspanned_terms : {n : _} → Row_of-SpecTerm n → List SpecTerm
  unspanned_terms end_of-SpecTerm = []
  unspanned_terms (more_of-SpecTerm t rest) = unspanned_term t ∷ unspanned_terms rest

abbrev mutual
  pub unspanned_kind : Kind → Kind
  unspanned_kind kind.Empty = kind.Empty
  unspanned_kind (kind.Terminal t) = kind.Terminal (unspanned_term t)
  unspanned_kind (kind.Action word at) = kind.Action word no_span
  unspanned_kind (kind.Seq' n row) = kind.Seq (unspanned_exprs row)
  unspanned_kind (kind.Choice' n row) = kind.Choice (unspanned_exprs row)
  unspanned_kind (kind.Star' _ at e) = kind.Star' no_place no_span (unspanned_kind e)
  unspanned_kind (kind.Plus' _ at e) = kind.Plus' no_place no_span (unspanned_kind e)
  unspanned_kind (kind.Opt' _ at e) = kind.Opt' no_place no_span (unspanned_kind e)
  unspanned_kind (kind.Hold' t _ at e) = kind.Hold' (unspanned_term t) no_place no_span (unspanned_kind e)
  unspanned_kind (kind.Scope' _ at e _ at' x _ at'' h) = kind.Scope' no_place no_span (unspanned_kind e) no_place
      no_span (unspanned_kind x) no_place no_span (unspanned_kind h)
  unspanned_kind (kind.Name word) = kind.Name word
  unspanned_kind (kind.Repeat' _ at e m n) = kind.Repeat' no_place no_span (unspanned_kind e) m n

  pub unspanned_exprs : {n : _} → Row_of-Expr n → List Expr
  unspanned_exprs end_of-Expr = []
  unspanned_exprs (more_of-Expr at e rest) = expr no_span (unspanned_kind e) ∷ unspanned_exprs rest

abbrev pub unspanned_expr : Expr → Expr
unspanned_expr e = expr no_span (unspanned_kind e.kind)

abbrev pub unspanned_decl : Decl → Decl
unspanned_decl d = record d { span = no_span }

abbrev pub unspanned_set : Set → Set
unspanned_set s = record s { span = no_span }

abbrev pub unspanned_level : Level → Level
unspanned_level l = record l { span = no_span; sets = map unspanned_set l.sets }

abbrev pub unspanned_prod : Prod → Prod
unspanned_prod p = record p { span = no_span; body = unspanned_expr p.body }

abbrev pub unspanned : Spec → Spec
unspanned spec = record {
  version = spec.version;
  inputs = map unspanned_decl spec.inputs;
  actions = map unspanned_decl spec.actions;
  levels = map unspanned_level spec.levels;
  prods = map unspanned_prod spec.prods;
  main = unspanned_expr spec.main;
}
