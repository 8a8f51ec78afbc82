-- The forms of expressions, and the expressions that stand in a specification.
use Rattle.std.specs.Prelude.{ℕ, List, [], ◌∷◌, Contains}
use Rattle.pbs_base.specs.declared.refusal.Span.{Span}
use Rattle.pbs_ast.specs.declared.syntax.Expr.{Expr}
use Rattle.pbs_ast.specs.declared.syntax.Prod.{Prod}
use Rattle.pbs_ast.specs.declared.syntax.Spec.{Spec}
use Rattle.pbs_ast.specs.declared.syntax.SpecTerm.{SpecTerm}
use Rattle.pbs_ast.specs.declared.syntax.Kind as kind
use Rattle.pbs_ast.specs.declared.syntax.Kind.{items-the_row-Expr}

-- an expression without its span, its parts as they are
pub data Form : Type 0 where
  Empty : Form
  Terminal : (term : SpecTerm) → Form
  Action : (name : List ℕ) (at : Span) → Form
  Seq : (items : List Expr) → Form
  Choice : (items : List Expr) → Form
  Star : (body : Expr) → Form
  Plus : (body : Expr) → Form
  Opt : (body : Expr) → Form
  Hold : (term : SpecTerm) (body : Expr) → Form
  Scope : (body trap after : Expr) → Form
  Name : (name : List ℕ) → Form
  Repeat : (body : Expr) (least most : ℕ) → Form

abbrev pub expr_of : Span → kind.Kind → Expr
expr_of span k = record { span = span; kind = k }

abbrev pub form_of : kind.Kind → Form
form_of kind.Empty = Empty
form_of (kind.Terminal t) = Terminal t
form_of (kind.Action name at) = Action name at
form_of (kind.Seq' n row) = Seq (items-the_row-Expr _ row)
form_of (kind.Choice' n row) = Choice (items-the_row-Expr _ row)
form_of (kind.Star' _ s e) = Star (expr_of s e)
form_of (kind.Plus' _ s e) = Plus (expr_of s e)
form_of (kind.Opt' _ s e) = Opt (expr_of s e)
form_of (kind.Hold' t _ s e) = Hold t (expr_of s e)
form_of (kind.Scope' _ s e _ s' x _ s'' h) = Scope (expr_of s e) (expr_of s' x) (expr_of s'' h)
form_of (kind.Name name) = Name name
form_of (kind.Repeat' _ s e m n) = Repeat (expr_of s e) m n

abbrev pub form : Expr → Form
form e = form_of e.kind

-- the expressions of which one is made
abbrev pub parts : Form → List Expr
parts (Seq items) = items
parts (Choice items) = items
parts (Star e) = e ∷ []
parts (Plus e) = e ∷ []
parts (Opt e) = e ∷ []
parts (Hold t e) = e ∷ []
parts (Scope e x h) = e ∷ x ∷ h ∷ []
parts (Repeat e m n) = e ∷ []
parts _ = []

-- the expression stands in main or in a production, used or not
pub data Stands (spec : Spec) : Expr → Type 0 where
  OfMain : Stands spec spec.main
  OfProd : {p : Prod} → Contains spec.prods p → Stands spec p.body
  OfPart : {e d : Expr} → Stands spec e → Contains (parts (form e)) d → Stands spec d
