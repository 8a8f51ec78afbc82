-- The form of an expression with every box at one place, and the body of a production.
use Rattle.std.proofs.Common.{◌≡◌, ℕ, true, false, List, [], ◌∷◌, Some, map, refl, ap, ◌∙◌}
use Rattle.std.specs.Prelude.{◌==◌, if◌then◌else◌}
use Rattle.std.specs.Option.{option_map}
use Rattle.std.specs.Cmp.Lexicographic.{pointwise}
use Rattle.pbs_ast.specs.declared.syntax.Expr.{Expr}
use Rattle.pbs_ast.specs.declared.syntax.Kind as kind
use Rattle.pbs_ast.specs.declared.syntax.Kind.{items_hidden-the_row-Expr-0}
use Rattle.pbs_ast.specs.declared.syntax.Prod.{Prod}
use Rattle.pbs_ast.specs.Bare.{bare_term, bare_kind, bare_exprs, bare_expr, bare_prod}
use Rattle.pbs_names.specs.Forms.{Form, form, form_of, Empty, Terminal, Action, Seq, Choice, Star, Plus, Opt, Hold}
use Rattle.pbs_names.specs.Forms.{Scope, Name, Repeat}
use Rattle.pbs_names.specs.Naming.{body_of}
use Rattle.pbs_ast.proofs.BareRows.{bare_exprs_is}

abbrev pub bare_form : Form → Form
bare_form Empty = Empty
bare_form (Terminal t) = Terminal (bare_term t)
bare_form (Action name at) = Action name at
bare_form (Seq items) = Seq (map bare_expr items)
bare_form (Choice items) = Choice (map bare_expr items)
bare_form (Star e) = Star (bare_expr e)
bare_form (Plus e) = Plus (bare_expr e)
bare_form (Opt e) = Opt (bare_expr e)
bare_form (Hold t e) = Hold (bare_term t) (bare_expr e)
bare_form (Scope e x h) = Scope (bare_expr e) (bare_expr x) (bare_expr h)
bare_form (Name name) = Name name
bare_form (Repeat e m n) = Repeat (bare_expr e) m n

form_of_bare : (k : kind.Kind) → form_of (bare_kind k) ≡ bare_form (form_of k)
form_of_bare kind.Empty = refl
form_of_bare (kind.Terminal t) = refl
form_of_bare (kind.Action name at) = refl
form_of_bare (kind.Seq' n row) = ap Seq (items_hidden-the_row-Expr-0 (bare_exprs row) ∙ bare_exprs_is _ row)
form_of_bare (kind.Choice' n row) = ap Choice (items_hidden-the_row-Expr-0 (bare_exprs row) ∙ bare_exprs_is _ row)
form_of_bare (kind.Star' _ s e) = refl
form_of_bare (kind.Plus' _ s e) = refl
form_of_bare (kind.Opt' _ s e) = refl
form_of_bare (kind.Hold' t _ s e) = refl
form_of_bare (kind.Scope' _ s e _ s' x _ s'' h) = refl
form_of_bare (kind.Name name) = refl
form_of_bare (kind.Repeat' _ s e m n) = refl

pub form_bare : (e : Expr) → form (bare_expr e) ≡ bare_form (form e)
form_bare e = form_of_bare e.kind

-- the body of a production
pub body_bare : (prods : List Prod) (name : List ℕ)
    → body_of (map bare_prod prods) name ≡ option_map bare_expr (body_of prods name)
body_bare [] name = refl
body_bare (p ∷ ps) name =
    elim (pointwise ◌==◌ p.name name) as (λ b. (if b then Some (bare_expr p.body) else body_of (map bare_prod ps) name)
    ≡ option_map bare_expr (if b then Some p.body else body_of ps name))
    [ true ↦ refl | false ↦ body_bare ps name ]
