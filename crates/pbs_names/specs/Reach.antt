-- What lies in an expression, and which expressions may cover the empty stretch. Names are followed.
use Rattle.std.specs.Prelude.{◌≡◌, ℕ, List, [], Contains, Some, None}
use Rattle.pbs_base.specs.declared.refusal.Span.{Span}
use Rattle.pbs_ast.specs.declared.syntax.Expr.{Expr}
use Rattle.pbs_ast.specs.declared.syntax.Prod.{Prod}
use Rattle.pbs_ast.specs.declared.syntax.SpecTerm.{SpecTerm}
use Rattle.pbs_names.specs.Naming.{body_of}
use Rattle.pbs_names.specs.Forms.{Form, form, parts, Empty, Terminal, Action, Seq, Choice, Star, Plus, Opt, Hold, Scope}
use Rattle.pbs_names.specs.Forms.{Name, Repeat}

-- a form lies in another: it is it, or lies in one of its parts, or in the production that it names
pub data LiesIn (prods : List Prod) (d : Form) : Form → Type 0 where
  Itself : LiesIn prods d d
  InPart : {f : Form} {e : Expr} → Contains (parts f) e → LiesIn prods d (form e) → LiesIn prods d f
  InProd : {name : List ℕ} {e : Expr}
      → body_of prods name ≡ Some e → LiesIn prods d (form e) → LiesIn prods d (Name name)

abbrev pub HasTerminal : List Prod → Form → Type 0
HasTerminal prods f = (t : SpecTerm) × LiesIn prods (Terminal t) f

abbrev pub HasAction : List Prod → Form → Type 0
HasAction prods f = (name : List ℕ) × (at : Span) × LiesIn prods (Action name at) f

abbrev pub HasScope : List Prod → Form → Type 0
HasScope prods f = (e : Expr) × (x : Expr) × (h : Expr) × LiesIn prods (Scope e x h) f

-- the form may cover the empty stretch; a choice of none and an unknown name stand for `()`
pub data MayBeEmpty (prods : List Prod) : Form → Type 0 where
  EmptyMay : MayBeEmpty prods Empty
  ActionMay : {name : List ℕ} {at : Span} → MayBeEmpty prods (Action name at)
  AllMay : {items : List Expr}
      → ((e : Expr) → Contains items e → MayBeEmpty prods (form e)) → MayBeEmpty prods (Seq items)
  SomeMay : {items : List Expr} {e : Expr}
      → Contains items e → MayBeEmpty prods (form e) → MayBeEmpty prods (Choice items)
  NoneMay : MayBeEmpty prods (Choice [])
  StarMay : {e : Expr} → MayBeEmpty prods (Star e)
  PlusMay : {e : Expr} → MayBeEmpty prods (form e) → MayBeEmpty prods (Plus e)
  OptMay : {e : Expr} → MayBeEmpty prods (Opt e)
  HoldMay : {t : SpecTerm} {e : Expr} → MayBeEmpty prods (form e) → MayBeEmpty prods (Hold t e)
  ScopeMay : {e x h : Expr} → MayBeEmpty prods (form e) → MayBeEmpty prods (Scope e x h)
  NameMay : {name : List ℕ} {e : Expr}
      → body_of prods name ≡ Some e → MayBeEmpty prods (form e) → MayBeEmpty prods (Name name)
  UnknownMay : {name : List ℕ} → body_of prods name ≡ None → MayBeEmpty prods (Name name)
  NoCopyMay : {e : Expr} {m n : ℕ} → m ≡ 0 → MayBeEmpty prods (Repeat e m n)
  CopiesMay : {e : Expr} {m n : ℕ} → MayBeEmpty prods (form e) → MayBeEmpty prods (Repeat e m n)
