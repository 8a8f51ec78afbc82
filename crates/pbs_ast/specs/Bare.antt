-- A specification with every box at one place: equal ones are the same whatever memory they lie in.
use Rattle.std.specs.Prelude.{List, [], ◌∷◌, map, Box}
use Rattle.std.specs.declared.alloc.Global.{Global}
use denote.RawPtr.{null_ptr}
use Rattle.pbs_base.specs.declared.refusal.Span.{Span}
use Rattle.pbs_ast.specs.declared.syntax.SpecTerm as term
use Rattle.pbs_ast.specs.declared.syntax.SpecTerm.{SpecTerm, Row_of-SpecTerm, end_of-SpecTerm, more_of-SpecTerm}
use Rattle.pbs_ast.specs.declared.syntax.Kind as kind
use Rattle.pbs_ast.specs.declared.syntax.Kind.{Kind, Row_of-Expr, end_of-Expr, more_of-Expr}
use Rattle.pbs_ast.specs.declared.syntax.Expr.{Expr}
use Rattle.pbs_ast.specs.declared.syntax.Prod.{Prod}
use Rattle.pbs_ast.specs.declared.syntax.Spec.{Spec}

abbrev pub no_place : Box (Unit {0}) Global
no_place = record { ptr = null_ptr; alloc = record { memory = record { seal = tt } }; value = tt }

abbrev mutual
  pub bare_term : SpecTerm → SpecTerm
  bare_term (term.Const b) = term.Const b
  bare_term (term.Name word at) = term.Name word at
  bare_term (term.Not' _ t) = term.Not' no_place (bare_term t)
  bare_term (term.All' n row) = term.All (bare_terms row)
  bare_term (term.Any' n row) = term.Any (bare_terms row)
  bare_term (term.Equal word at n to) = term.Equal word at n to

  pub bare_terms : {n : _} → Row_of-SpecTerm n → List SpecTerm
  bare_terms end_of-SpecTerm = []
  bare_terms (more_of-SpecTerm t rest) = bare_term t ∷ bare_terms rest

abbrev pub expr : Span → Kind → Expr
expr at k = record { span = at; kind = k }

abbrev mutual
  pub bare_kind : Kind → Kind
  bare_kind kind.Empty = kind.Empty
  bare_kind (kind.Terminal t) = kind.Terminal (bare_term t)
  bare_kind (kind.Action word at) = kind.Action word at
  bare_kind (kind.Seq' n row) = kind.Seq (bare_exprs row)
  bare_kind (kind.Choice' n row) = kind.Choice (bare_exprs row)
  bare_kind (kind.Star' _ at e) = kind.Star' no_place at (bare_kind e)
  bare_kind (kind.Plus' _ at e) = kind.Plus' no_place at (bare_kind e)
  bare_kind (kind.Opt' _ at e) = kind.Opt' no_place at (bare_kind e)
  bare_kind (kind.Hold' t _ at e) = kind.Hold' (bare_term t) no_place at (bare_kind e)
  bare_kind (kind.Scope' _ at e _ at' x _ at'' h) = kind.Scope' no_place at (bare_kind e) no_place at'
      (bare_kind x) no_place at'' (bare_kind h)
  bare_kind (kind.Name word) = kind.Name word
  bare_kind (kind.Repeat' _ at e m n) = kind.Repeat' no_place at (bare_kind e) m n

  pub bare_exprs : {n : _} → Row_of-Expr n → List Expr
  bare_exprs end_of-Expr = []
  bare_exprs (more_of-Expr at e rest) = expr at (bare_kind e) ∷ bare_exprs rest

abbrev pub bare_expr : Expr → Expr
bare_expr e = expr e.span (bare_kind e.kind)

abbrev pub bare_prod : Prod → Prod
bare_prod p = record { name = p.name; span = p.span; body = bare_expr p.body }

abbrev pub bare : Spec → Spec
bare spec = record {
  version = spec.version;
  inputs = spec.inputs;
  actions = spec.actions;
  levels = spec.levels;
  prods = map bare_prod spec.prods;
  main = bare_expr spec.main;
}
