-- Rules 6, 7, 18 and 19: names that are used, comparisons and repetitions. They look at every production.
use Rattle.std.specs.Prelude.{◌≡◌, ◌≤◌, ◌<◌, ◌^◌, ℕ, ◌⊎◌, nat_eq, if◌then◌else◌, Some, List, [], ◌∷◌, ◌++◌, map}
use Rattle.std.specs.Prelude.{Contains}
use Rattle.pbs_base.specs.declared.refusal.Span.{Span}
use Rattle.pbs_ast.specs.declared.syntax.Decl.{Decl}
use Rattle.pbs_ast.specs.declared.syntax.Expr.{Expr}
use Rattle.pbs_ast.specs.declared.syntax.Level.{Level}
use Rattle.pbs_ast.specs.declared.syntax.Set.{Set}
use Rattle.pbs_ast.specs.declared.syntax.Spec.{Spec}
use Rattle.pbs_ast.specs.declared.syntax.SpecTerm as terms
use Rattle.pbs_ast.specs.declared.syntax.SpecTerm.{SpecTerm, Row_of-SpecTerm, end_of-SpecTerm, more_of-SpecTerm}
use Rattle.pbs_names.specs.Forms.{Form, Terminal, Action, Hold, Name, Repeat, form, Stands}
use Rattle.pbs_names.specs.Naming.{input_names, action_names, prod_names, bus_of}
use Rattle.pbs_names.specs.declared.buses.Bus.{Bus}
use Rattle.pbs_check.specs.declared.named.Named.{Named}
use Rattle.pbs_check.specs.declared.uses.Wanted.{Wanted}
use Rattle.pbs_check.specs.declared.uses.Wanted.TheVariants as wanted
use Rattle.pbs_check.specs.Declaring.{declared_names}

-- a name with its place and what it is wanted to be
pub record Use : Type 0 where
  pub name : List ℕ
  pub span : Span
  pub wants : Wanted

abbrev pub use_of : Wanted → List ℕ → Span → Use
use_of wants name span = record { name = name; span = span; wants = wants }

-- a leaf of a term that names an input or compares a bus, with the number and its place
pub data Leaf : Type 0 where
  NameLeaf : (name : List ℕ) (span : Span) → Leaf
  EqualLeaf : (name : List ℕ) (span : Span) (number : ℕ) (at : Span) → Leaf

abbrev mutual
  pub leaves : SpecTerm → List Leaf
  leaves (terms.Const b) = []
  leaves (terms.Name name span) = NameLeaf name span ∷ []
  leaves (terms.Not' _ t) = leaves t
  leaves (terms.All' n row) = row_leaves row
  leaves (terms.Any' n row) = row_leaves row
  leaves (terms.Equal name span number at) = EqualLeaf name span number at ∷ []

  pub row_leaves : {n : _} → Row_of-SpecTerm n → List Leaf
  row_leaves end_of-SpecTerm = []
  row_leaves (more_of-SpecTerm t rest) = leaves t ++ row_leaves rest

-- a plain name wants an input that isn't a bus, and a comparison wants a bus
abbrev pub leaf_use : Leaf → Use
leaf_use (NameLeaf name span) = use_of wanted.Input name span
leaf_use (EqualLeaf name span number at) = use_of wanted.Bus name span

abbrev pub form_leaves : Form → List Leaf
form_leaves (Terminal t) = leaves t
form_leaves (Hold t e) = leaves t
form_leaves _ = []

-- the uses of one expression, those of its parts aside
abbrev pub own_uses : Expr → Form → List Use
own_uses e (Action name at) = use_of wanted.Action name at ∷ []
own_uses e (Name name) = use_of wanted.Production name e.span ∷ []
own_uses e f = map leaf_use (form_leaves f)

pub data IsUse (spec : Spec) : Use → Type 0 where
  InExpr : {e : Expr} {u : Use} → Stands spec e → Contains (own_uses e (form e)) u → IsUse spec u
  InLevel : {l : Level} {s : Set} → Contains spec.levels l → Contains l.sets s
      → IsUse spec (use_of wanted.Action s.action s.span)

-- the names of the declarations that are buses
abbrev pub bus_names : List Decl → List (List ℕ)
bus_names [] = []
bus_names (d ∷ ds) = if nat_eq d.width 0 then bus_names ds else d.name ∷ bus_names ds

abbrev pub IsDeclared : Spec → List ℕ → Type 0
IsDeclared spec name = Contains (map (λ (n : Named). n.name) (declared_names spec)) name

abbrev pub IsKind : Spec → Wanted → List ℕ → Type 0
IsKind spec wanted.Input name = Contains (input_names spec.inputs) name
IsKind spec wanted.Bus name = Contains (bus_names spec.inputs) name
IsKind spec wanted.Action name = Contains (action_names spec.actions) name
IsKind spec wanted.Production name = Contains (prod_names spec.prods) name

-- a name that is used and not declared: the use
pub data Rule6 (spec : Spec) : Span → Type 0 where
  NotDeclared : {u : Use} → IsUse spec u → (IsDeclared spec u.name → ⊥) → Rule6 spec u.span

-- a name of the wrong kind: the use
pub data Rule7 (spec : Spec) : Span → Type 0 where
  WrongKind : {u : Use} → IsUse spec u → IsDeclared spec u.name → (IsKind spec u.wants u.name → ⊥) → Rule7 spec u.span

-- a comparison whose number isn't below 2 to the power of the width: the number
pub data Rule18 (spec : Spec) : Span → Type 0 where
  TooLarge : {e : Expr} {name : List ℕ} {span at : Span} {number : ℕ} {bus : Bus} → Stands spec e
      → Contains (form_leaves (form e)) (EqualLeaf name span number at) → bus_of spec.inputs name ≡ Some bus
      → 2 ^ bus.width ≤ number → Rule18 spec at

-- a repetition with a least number above the greatest, none at all or more than 4,096: the repetition
pub data Rule19 (spec : Spec) : Span → Type 0 where
  WrongCopies : {e b : Expr} {m n : ℕ} → Stands spec e → form e ≡ Repeat b m n
      → ((n < m) ⊎ ((n ≡ 0) ⊎ (4096 < n))) → Rule19 spec e.span
