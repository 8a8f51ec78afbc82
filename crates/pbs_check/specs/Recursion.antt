-- Rule 8: productions that use each other.
use Rattle.std.specs.Prelude.{◌≡◌, ℕ, List, Some, Contains}
use Rattle.pbs_base.specs.declared.refusal.Span.{Span}
use Rattle.pbs_ast.specs.declared.syntax.Expr.{Expr}
use Rattle.pbs_ast.specs.declared.syntax.Prod.{Prod}
use Rattle.pbs_ast.specs.declared.syntax.Spec.{Spec}
use Rattle.pbs_names.specs.Forms.{Name, form, parts}
use Rattle.pbs_names.specs.Naming.{body_of}

-- the expression is this one, or stands in it
pub data IsWithin (d : Expr) : Expr → Type 0 where
  Whole : IsWithin d d
  OfPart : {e x : Expr} → Contains (parts (form e)) x → IsWithin d x → IsWithin d e

-- the expression uses the name at a place
pub data UsesAt (e : Expr) (name : List ℕ) : Span → Type 0 where
  Here : {d : Expr} → IsWithin d e → form d ≡ Name name → UsesAt e name d.span

-- from one production another can be reached by uses, in no step or more
pub data Reaches (prods : List Prod) (to : List ℕ) : List ℕ → Type 0 where
  Arrived : Reaches prods to to
  ByUse : {from via : List ℕ} {body : Expr} {span : Span} → body_of prods from ≡ Some body → UsesAt body via span
      → Reaches prods to via → Reaches prods to from

-- a use, in a production, of a name from which the production can be reached: the use
pub data Rule8 (spec : Spec) : Span → Type 0 where
  Recursive : {p : Prod} {name : List ℕ} {span : Span} → Contains spec.prods p → UsesAt p.body name span
      → Reaches spec.prods p.name name → Rule8 spec span
