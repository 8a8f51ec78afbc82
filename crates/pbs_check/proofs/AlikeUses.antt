-- What stands in a specification, and the names that are used there, whatever the places of the boxes.
use Rattle.std.proofs.Common.{◌≡◌, ℕ, List, [], ◌∷◌, ◌++◌, map, refl, sym, ap, ap₂, subst, ◌∙◌}
use Rattle.pbs_check.proofs.WalkLemmas.{list_leaves}
use Rattle.pbs_base.specs.declared.refusal.Span.{Span}
use Rattle.pbs_ast.specs.declared.syntax.SpecTerm as terms
use Rattle.pbs_ast.specs.declared.syntax.SpecTerm.{SpecTerm, Row_of-SpecTerm, end_of-SpecTerm, more_of-SpecTerm}
use Rattle.pbs_ast.specs.declared.syntax.Expr.{Expr}
use Rattle.pbs_ast.specs.declared.syntax.Prod.{Prod}
use Rattle.pbs_ast.specs.declared.syntax.Spec.{Spec}
use Rattle.pbs_ast.specs.Bare.{bare_term, bare_terms, bare_expr, bare_prod}
use Rattle.pbs_names.specs.Forms.{Form, form, parts, Stands, OfMain, OfProd, OfPart}
use Rattle.pbs_names.specs.Forms as forms
use Rattle.pbs_names.specs.Naming.{prod_names}
use Rattle.pbs_check.specs.Declaring.{declared_prods, named}
use Rattle.pbs_check.specs.declared.uses.Wanted.TheVariants as wanted
use Rattle.pbs_check.specs.Recursion as recursion
use Rattle.pbs_check.specs.Recursion.{IsWithin, Whole, UsesAt, Here, Reaches, Arrived, ByUse}
use Rattle.pbs_check.specs.Using.{leaves, row_leaves, form_leaves, own_uses, use_of, leaf_use}
use Rattle.pbs_check.specs.inner.Walking.{all_leaves}
use Rattle.pbs_check.proofs.Alike.{FormsAlike, Empties, Terminals, Actions, Seqs, Choices, Stars, Pluses, Opts, Holds}
use Rattle.pbs_check.proofs.Alike.{Scopes, Names, Repeats, forms_alike, parts_alike, item_alike, body_alike}

-- ---- the leaves of terms
mutual
  leaves_bare : (t : SpecTerm) → leaves (bare_term t) ≡ leaves t
  leaves_bare (terms.Const b) = refl
  leaves_bare (terms.Name word at) = refl
  leaves_bare (terms.Not' _ t) = leaves_bare t
  leaves_bare (terms.All' n row) = list_leaves (bare_terms row) ∙ row_leaves_bare _ row
  leaves_bare (terms.Any' n row) = list_leaves (bare_terms row) ∙ row_leaves_bare _ row
  leaves_bare (terms.Equal word at n to) = refl

  row_leaves_bare : (n : _) (row : Row_of-SpecTerm n) → all_leaves (bare_terms row) ≡ row_leaves row
  row_leaves_bare n end_of-SpecTerm = refl
  row_leaves_bare n (more_of-SpecTerm t rest) = ap₂ (λ a b. a ++ b) (leaves_bare t) (row_leaves_bare _ rest)

leaves_alike : (t u : SpecTerm) → bare_term t ≡ bare_term u → leaves t ≡ leaves u
leaves_alike t u same = sym (leaves_bare t) ∙ (ap leaves same ∙ leaves_bare u)

pub form_leaves_alike : {f g : Form} → FormsAlike f g → form_leaves f ≡ form_leaves g
form_leaves_alike Empties = refl
form_leaves_alike (Terminals {t = t} {u = u} p) = leaves_alike t u p
form_leaves_alike Actions = refl
form_leaves_alike (Seqs p) = refl
form_leaves_alike (Choices p) = refl
form_leaves_alike (Stars p) = refl
form_leaves_alike (Pluses p) = refl
form_leaves_alike (Opts p) = refl
form_leaves_alike (Holds {t = t} {u = u} p q) = leaves_alike t u p
form_leaves_alike (Scopes p q r) = refl
form_leaves_alike Names = refl
form_leaves_alike (Repeats p) = refl

-- ---- the uses of an expression
pub spans_alike : (e d : Expr) → bare_expr e ≡ bare_expr d → e.span ≡ d.span
spans_alike e d same = ap (λ x. x.span) same

own_uses_of : (e d : Expr) {f g : Form} → e.span ≡ d.span → FormsAlike f g → own_uses e f ≡ own_uses d g
own_uses_of e d span Empties = refl
own_uses_of e d span (Terminals {t = t} {u = u} p) = ap (map leaf_use) (leaves_alike t u p)
own_uses_of e d span Actions = refl
own_uses_of e d span (Seqs p) = refl
own_uses_of e d span (Choices p) = refl
own_uses_of e d span (Stars p) = refl
own_uses_of e d span (Pluses p) = refl
own_uses_of e d span (Opts p) = refl
own_uses_of e d span (Holds {t = t} {u = u} p q) = ap (map leaf_use) (leaves_alike t u p)
own_uses_of e d span (Scopes p q r) = refl
own_uses_of e d span (Names {name = name}) = ap (λ s. use_of wanted.Production name s ∷ []) span
own_uses_of e d span (Repeats p) = refl

pub own_uses_alike : (e d : Expr) → bare_expr e ≡ bare_expr d → own_uses e (form e) ≡ own_uses d (form d)
own_uses_alike e d same = own_uses_of e d (spans_alike e d same) (forms_alike e d same)

name_alike : (name : List ℕ) {f g : Form} → f ≡ forms.Name name → FormsAlike f g → g ≡ forms.Name name
name_alike name is Empties = cc
name_alike name is (Terminals p) = cc
name_alike name is Actions = cc
name_alike name is (Seqs p) = cc
name_alike name is (Choices p) = cc
name_alike name is (Stars p) = cc
name_alike name is (Pluses p) = cc
name_alike name is (Opts p) = cc
name_alike name is (Holds p q) = cc
name_alike name is (Scopes p q r) = cc
name_alike name is Names = is
name_alike name is (Repeats p) = cc

-- ---- productions
pub declared_alike : (ps qs : List Prod) → map bare_prod ps ≡ map bare_prod qs → declared_prods ps ≡ declared_prods qs
declared_alike ps qs same = sym (declared_bare ps) ∙ (ap declared_prods same ∙ declared_bare qs)
  where
    declared_bare : (rs : List Prod) → declared_prods (map bare_prod rs) ≡ declared_prods rs
    declared_bare [] = refl
    declared_bare (r ∷ rs) = ap (λ l. named r.span r.name ∷ l) (declared_bare rs)

pub names_alike : (ps qs : List Prod) → map bare_prod ps ≡ map bare_prod qs → prod_names ps ≡ prod_names qs
names_alike ps qs same = sym (names_bare ps) ∙ (ap prod_names same ∙ names_bare qs)
  where
    names_bare : (rs : List Prod) → prod_names (map bare_prod rs) ≡ prod_names rs
    names_bare [] = refl
    names_bare (r ∷ rs) = ap (λ l. r.name ∷ l) (names_bare rs)

-- ---- uses within an expression
within_alike : {d e : Expr} → IsWithin d e → (x : Expr) → bare_expr e ≡ bare_expr x
    → (y : Expr) × IsWithin y x × (bare_expr d ≡ bare_expr y)
within_alike Whole x same = (x, Whole, same)
within_alike (recursion.OfPart {e = e} {x = d} here more) x same =
    let part = item_alike bare_expr (parts (form e)) (parts (form x)) d (parts_alike (forms_alike e x same)) here in
    let found = within_alike more part.0 part.2 in
    (found.0, recursion.OfPart part.1 found.1, found.2)

pub uses_alike : (e x : Expr) (name : List ℕ) {span : Span} → bare_expr e ≡ bare_expr x → UsesAt e name span
    → UsesAt x name span
uses_alike e x name same (Here {d = d} within is) =
    let found = within_alike within x same in let y = found.0 in
    let P : Span → Type 0 = λ s. UsesAt x name s in
    subst P (sym (spans_alike d y found.2)) (Here found.1 (name_alike name is (forms_alike d y found.2)))

module _ (ps qs : List Prod) (same : map bare_prod ps ≡ map bare_prod qs) where
  pub reaches_alike : {to from : List ℕ} → Reaches ps to from → Reaches qs to from
  reaches_alike Arrived = Arrived
  reaches_alike (ByUse {from = from} {via = via} {body = body} is uses more) =
      let x = body_alike ps qs from body same is in
      ByUse x.1 (uses_alike body x.0 via x.2 uses) (reaches_alike more)

-- a specification with other productions and another main
abbrev pub with_exprs : Spec → List Prod → Expr → Spec
with_exprs spec ps e = record {
  version = spec.version;
  inputs = spec.inputs;
  actions = spec.actions;
  levels = spec.levels;
  prods = ps;
  main = e;
}

module _ (spec : Spec) (ps qs : List Prod) (e d : Expr) (same : map bare_prod ps ≡ map bare_prod qs)
    (same_main : bare_expr e ≡ bare_expr d) where
  pub stands_alike : {x : Expr} → Stands (with_exprs spec ps e) x
      → (y : Expr) × Stands (with_exprs spec qs d) y × (bare_expr x ≡ bare_expr y)
  stands_alike OfMain = (d, OfMain, same_main)
  stands_alike (OfProd {p = p} here) =
      let found = item_alike bare_prod ps qs p same here in
      let q = found.0 in
      (q.body, OfProd found.1, ap (λ r. r.body) found.2)
  stands_alike (OfPart {e = x} {d = z} stands here) =
      let y = stands_alike stands in
      let w = y.0 in
      let part = item_alike bare_expr (parts (form x)) (parts (form w)) z (parts_alike (forms_alike x w y.2)) here in
      (part.0, OfPart y.1 part.1, part.2)
