-- What a walk over a specification finds, expression by expression.
use Rattle.std.specs.Prelude.{ℕ, ◌==◌, ◌^◌, not, ◌&&◌, ◌||◌, nat_eq, nat_lt, nat_le, if◌then◌else◌, Option, Some, None}
use Rattle.std.specs.Prelude.{List, [], ◌∷◌, ◌++◌}
use Rattle.std.specs.Option.{is_some}
use Rattle.std.specs.Cmp.Lexicographic.{pointwise}
use Rattle.pbs_base.specs.declared.refusal.Span.{Span}
use Rattle.pbs_ast.specs.declared.syntax.Decl.{Decl}
use Rattle.pbs_ast.specs.declared.syntax.Expr.{Expr}
use Rattle.pbs_ast.specs.declared.syntax.Prod.{Prod}
use Rattle.pbs_ast.specs.declared.syntax.Set.{Set}
use Rattle.pbs_ast.specs.declared.syntax.Level.{Level}
use Rattle.pbs_ast.specs.declared.syntax.SpecTerm as terms
use Rattle.pbs_ast.specs.declared.syntax.Kind as kind
use Rattle.pbs_ast.specs.declared.syntax.Kind.{Row_of-Expr, end_of-Expr, more_of-Expr}
use Rattle.pbs_names.specs.declared.index.Numbers.{Numbers}
use Rattle.pbs_names.specs.Forms.{Form, Terminal, Action, Star, Plus, Hold, Scope, Name, Repeat, form, expr_of}
use Rattle.pbs_names.specs.Numbers.{number_in}
use Rattle.pbs_check.specs.declared.uses.Wanted.{Wanted}
use Rattle.pbs_check.specs.declared.uses.Wanted.TheVariants as wanted
use Rattle.pbs_check.specs.declared.uses.Look.{Look}
use Rattle.pbs_check.specs.declared.uses.Look.TheVariants as looks
use Rattle.pbs_check.specs.declared.uses.Tables.{Tables}
use Rattle.pbs_check.specs.declared.facts.Facts.{Facts}
use Rattle.pbs_check.specs.inner.Facts.{known_of, expr_facts}
use Rattle.pbs_check.specs.Least.{least_by}
use Rattle.pbs_check.specs.Using.{Leaf, NameLeaf, EqualLeaf, leaves}

abbrev pub kind_numbers : Tables → Wanted → Numbers
kind_numbers tables wanted.Input = tables.inputs
kind_numbers tables wanted.Bus = tables.buses
kind_numbers tables wanted.Action = tables.actions
kind_numbers tables wanted.Production = tables.prods

-- what is wrong with a use
abbrev pub name_broken : Look → Tables → Wanted → List ℕ → Span → Option Span
name_broken looks.Declared tables wants name span = if is_some (number_in tables.declared name) then None else Some span
name_broken looks.Kinds tables wants name span =
    if is_some (number_in tables.declared name) && not (is_some (number_in (kind_numbers tables wants) name)) then
    Some span
    else None
name_broken _ tables wants name span = None

-- the width of the first bus of that name
abbrev pub bus_width : List Decl → List ℕ → Option ℕ
bus_width [] name = None
bus_width (d ∷ ds) name = if not (nat_eq d.width 0) && pointwise ◌==◌ d.name name then Some d.width else bus_width ds
    name

abbrev pub too_large : Option ℕ → ℕ → Span → Option Span
too_large None number at = None
too_large (Some width) number at = if nat_le (2 ^ width) number then Some at else None

abbrev pub equal_broken : Look → Tables → List Decl → List ℕ → Span → ℕ → Span → Option Span
equal_broken looks.Numbers tables inputs name span number at = too_large (bus_width inputs name) number at
equal_broken look tables inputs name span number at = name_broken look tables wanted.Bus name span

abbrev pub leaf_broken : Look → Tables → List Decl → Leaf → Option Span
leaf_broken look tables inputs (NameLeaf name span) = name_broken look tables wanted.Input name span
leaf_broken look tables inputs (EqualLeaf name span number at) = equal_broken look tables inputs name span number at

abbrev pub copies_broken : Look → Span → ℕ → ℕ → Option Span
copies_broken looks.Copies span m n = if nat_lt n m || (nat_eq n 0 || nat_lt 4096 n) then Some span else None
copies_broken _ span m n = None

abbrev pub if_empty : Span → Option Facts → Option Span
if_empty span (Some facts) = if facts.may_be_empty then Some span else None
if_empty span None = None

abbrev pub star_broken : Look → Tables → Expr → Option Span
star_broken looks.Stars tables b = if_empty b.span (expr_facts (known_of tables.known) b)
star_broken _ tables b = None

abbrev pub if_wrong : Span → Option Facts → Option Facts → Option Span
if_wrong span (Some first) (Some second) =
    if not first.has_terminal || (second.may_be_empty || second.is_busy) then Some span else None
if_wrong span _ _ = None

abbrev pub scope_broken : Look → Tables → Span → Expr → Expr → Option Span
scope_broken looks.Scopes tables span b x = if_wrong span (expr_facts (known_of tables.known) b)
    (expr_facts (known_of tables.known) x)
scope_broken _ tables span b x = None

-- what is wrong with an expression, its parts aside
abbrev pub form_broken : Look → Tables → List Decl → Span → Form → Option Span
form_broken look tables inputs span (Terminal t) = least_by (leaf_broken look tables inputs) (leaves t)
form_broken look tables inputs span (Hold t e) = least_by (leaf_broken look tables inputs) (leaves t)
form_broken look tables inputs span (Action name at) = name_broken look tables wanted.Action name at
form_broken look tables inputs span (Name name) = name_broken look tables wanted.Production name span
form_broken look tables inputs span (Repeat e m n) = copies_broken look span m n
form_broken look tables inputs span (Star b) = star_broken look tables b
form_broken look tables inputs span (Plus b) = star_broken look tables b
form_broken look tables inputs span (Scope b x h) = scope_broken look tables span b x
form_broken look tables inputs span _ = None

abbrev pub own_broken : Look → Tables → List Decl → Expr → Option Span
own_broken look tables inputs e = form_broken look tables inputs e.span (form e)

-- the expression and all that stands in it
abbrev mutual
  pub below_kind : kind.Kind → List Expr
  below_kind (kind.Seq' n row) = row_inside row
  below_kind (kind.Choice' n row) = row_inside row
  below_kind (kind.Star' p s e) = expr_of s e ∷ below_kind e
  below_kind (kind.Plus' p s e) = expr_of s e ∷ below_kind e
  below_kind (kind.Opt' p s e) = expr_of s e ∷ below_kind e
  below_kind (kind.Hold' t p s e) = expr_of s e ∷ below_kind e
  below_kind (kind.Scope' p s e q s' x r s'' h) =
      (expr_of s e ∷ below_kind e) ++ ((expr_of s' x ∷ below_kind x) ++ (expr_of s'' h ∷ below_kind h))
  below_kind (kind.Repeat' p s e m n) = expr_of s e ∷ below_kind e
  below_kind _ = []

  pub row_inside : {n : _} → Row_of-Expr n → List Expr
  row_inside end_of-Expr = []
  row_inside (more_of-Expr s e rest) = (expr_of s e ∷ below_kind e) ++ row_inside rest

-- all that stands in the expression
abbrev pub below : Expr → List Expr
below e = below_kind e.kind

abbrev pub inside : Expr → List Expr
inside e = e ∷ below e

abbrev pub inside_all : List Expr → List Expr
inside_all [] = []
inside_all (e ∷ es) = inside e ++ inside_all es

abbrev pub all_leaves : List terms.SpecTerm → List Leaf
all_leaves [] = []
all_leaves (t ∷ ts) = leaves t ++ all_leaves ts

abbrev pub inside_prods : List Prod → List Expr
inside_prods [] = []
inside_prods (p ∷ ps) = inside p.body ++ inside_prods ps

abbrev pub set_broken : Look → Tables → Set → Option Span
set_broken look tables s = name_broken look tables wanted.Action s.action s.span

abbrev pub level_broken : Look → Tables → Level → Option Span
level_broken look tables l = least_by (set_broken look tables) l.sets
