-- Rules 9 and 10, which look at every production, used or not.
use Rattle.std.specs.Prelude.{◌≡◌}
use Rattle.pbs_base.specs.declared.refusal.Span.{Span}
use Rattle.pbs_ast.specs.declared.syntax.Expr.{Expr}
use Rattle.pbs_ast.specs.declared.syntax.Spec.{Spec}
use Rattle.pbs_names.specs.Forms.{Star, Plus, Scope, form, Stands}
use Rattle.pbs_names.specs.Reach.{MayBeEmpty, HasTerminal, HasAction, HasScope}

-- a star or plus whose body may cover the empty stretch: the body
pub data Rule9 (spec : Spec) : Span → Type 0 where
  EmptyStar : {e b : Expr} → Stands spec e → form e ≡ Star b → MayBeEmpty spec.prods (form b) → Rule9 spec b.span
  EmptyPlus : {e b : Expr} → Stands spec e → form e ≡ Plus b → MayBeEmpty spec.prods (form b) → Rule9 spec b.span

-- a scope whose trap may cover the empty stretch or holds an action or a scope, or whose body holds no terminal: the
-- scope
pub data Rule10 (spec : Spec) : Span → Type 0 where
  EmptyTrap : {e b x h : Expr} → Stands spec e → form e ≡ Scope b x h
      → MayBeEmpty spec.prods (form x) → Rule10 spec e.span
  ActionInTrap : {e b x h : Expr} → Stands spec e → form e ≡ Scope b x h
      → HasAction spec.prods (form x) → Rule10 spec e.span
  ScopeInTrap : {e b x h : Expr} → Stands spec e → form e ≡ Scope b x h
      → HasScope spec.prods (form x) → Rule10 spec e.span
  NoTerminal : {e b x h : Expr} → Stands spec e → form e ≡ Scope b x h
      → (HasTerminal spec.prods (form b) → ⊥) → Rule10 spec e.span
