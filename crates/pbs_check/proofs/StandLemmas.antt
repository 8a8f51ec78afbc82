-- The expressions of a specification, as a list.
use Rattle.std.proofs.Common.{◌≡◌, ◌⊎◌, inl, inr, List, [], ◌∷◌, ◌++◌, refl, sym, ap, subst}
use Rattle.std.specs.Prelude.{Contains}
use Rattle.std.proofs.lemmas.List.{append-nil}
use Rattle.std.proofs.lemmas.List.Elements.{Contains-append_cases, Contains-append_left, Contains-append_right}
use Rattle.pbs_ast.proofs.Items.{first_item, later_item, no_item, item_cases}
use Rattle.pbs_base.specs.declared.refusal.Span.{Span}
use Rattle.pbs_ast.specs.declared.syntax.Expr.{Expr}
use Rattle.pbs_ast.specs.declared.syntax.Prod.{Prod}
use Rattle.pbs_ast.specs.declared.syntax.Spec.{Spec}
use Rattle.pbs_ast.specs.declared.syntax.Kind as kind
use Rattle.pbs_ast.specs.declared.syntax.Kind.{Row_of-Expr, end_of-Expr, more_of-Expr, items-the_row-Expr}
use Rattle.pbs_names.specs.Forms.{form, form_of, parts, expr_of, Stands, OfMain, OfProd, OfPart}
use Rattle.pbs_check.specs.inner.Walking.{below, below_kind, inside, inside_all, inside_prods}
use Rattle.pbs_check.proofs.WalkLemmas.{row_inside_is}

-- a fact on expressions that follows from that on their parts
module _ (P : Expr → Type 0) (step : (e : Expr) → ((x : Expr) → Contains (parts (form e)) x → P x) → P e) where
  only_part : {x e : Expr} → P x → Contains (x ∷ []) e → P e
  only_part {x = x} p here = elim (item_cases x [] here) [
    | inl same ↦ subst P same p
    | inr more ↦ absurd (no_item more)
  ]

  three_parts : {b x h e : Expr} → P b → P x → P h → Contains (b ∷ x ∷ h ∷ []) e → P e
  three_parts {b = b} {x = x} {h = h} p q r here = elim (item_cases b (x ∷ h ∷ []) here) [
    | inl same ↦ subst P same p
    | inr more ↦ elim (item_cases x (h ∷ []) more) [ inl same ↦ subst P same q | inr last ↦ only_part r last ]
  ]

  abbrev mutual
    every_kind : (span : Span) (k : kind.Kind) → P (expr_of span k)
    every_kind span kind.Empty = step (expr_of span kind.Empty) (λ x here. absurd (no_item here))
    every_kind span (kind.Terminal t) = step (expr_of span (kind.Terminal t)) (λ x here. absurd (no_item here))
    every_kind span (kind.Action name at) = step (expr_of span (kind.Action name at)) (λ x here. absurd (no_item here))
    every_kind span (kind.Seq' n row) = step (expr_of span (kind.Seq' n row)) (λ x here. every_row _ row x here)
    every_kind span (kind.Choice' n row) = step (expr_of span (kind.Choice' n row)) (λ x here. every_row _ row x here)
    every_kind span (kind.Star' p s e) = step (expr_of span (kind.Star' p s e))
        (λ x here. only_part (every_kind s e) here)
    every_kind span (kind.Plus' p s e) = step (expr_of span (kind.Plus' p s e))
        (λ x here. only_part (every_kind s e) here)
    every_kind span (kind.Opt' p s e) = step (expr_of span (kind.Opt' p s e))
        (λ x here. only_part (every_kind s e) here)
    every_kind span (kind.Hold' t p s e) = step (expr_of span (kind.Hold' t p s e))
        (λ x here. only_part (every_kind s e) here)
    every_kind span (kind.Scope' p s e q s' x r s'' h) =
        step (expr_of span (kind.Scope' p s e q s' x r s'' h))
        (λ d here. three_parts (every_kind s e) (every_kind s' x) (every_kind s'' h) here)
    every_kind span (kind.Name name) = step (expr_of span (kind.Name name)) (λ x here. absurd (no_item here))
    every_kind span (kind.Repeat' p s e m n) = step (expr_of span (kind.Repeat' p s e m n))
        (λ x here. only_part (every_kind s e) here)

    every_row : (n : _) (row : Row_of-Expr n) (x : Expr) → Contains (items-the_row-Expr n row) x → P x
    every_row n end_of-Expr x here = absurd (no_item here)
    every_row n (more_of-Expr s e rest) x here = elim (item_cases (expr_of s e) (items-the_row-Expr _ rest) here)
        [ inl same ↦ subst P same (every_kind s e) | inr more ↦ every_row _ rest x more ]

  pub every : (e : Expr) → P e
  every e = every_kind e.span e.kind

-- what stands in an expression stands in one of its parts
below_is : (k : kind.Kind) → below_kind k ≡ inside_all (parts (form_of k))
below_is kind.Empty = refl
below_is (kind.Terminal t) = refl
below_is (kind.Action name at) = refl
below_is (kind.Seq' n row) = row_inside_is _ row
below_is (kind.Choice' n row) = row_inside_is _ row
below_is (kind.Star' p s e) = sym (append-nil (inside (expr_of s e)))
below_is (kind.Plus' p s e) = sym (append-nil (inside (expr_of s e)))
below_is (kind.Opt' p s e) = sym (append-nil (inside (expr_of s e)))
below_is (kind.Hold' t p s e) = sym (append-nil (inside (expr_of s e)))
below_is (kind.Scope' p s e q s' x r s'' h) = ap (λ xs. inside (expr_of s e) ++ (inside (expr_of s' x) ++ xs))
    (sym (append-nil (inside (expr_of s'' h))))
below_is (kind.Name name) = refl
below_is (kind.Repeat' p s e m n) = sym (append-nil (inside (expr_of s e)))

in_all : (es : List Expr) (e d : Expr) → Contains es e → Contains (inside e) d → Contains (inside_all es) d
in_all [] e d here there = absurd (no_item here)
in_all (x ∷ es) e d here there = elim (item_cases x es here) [
  | inl same ↦ let P : Expr → Type 0 = λ z. Contains (inside z) d in
      Contains-append_left (inside x) (inside_all es) d (subst P (sym same) there)
  | inr more ↦ Contains-append_right (inside x) (inside_all es) d (in_all es e d more there)
]

of_all : (es : List Expr) (d : Expr) → Contains (inside_all es) d → (e : Expr) × Contains es e × Contains (inside e) d
of_all [] d here = absurd (no_item here)
of_all (x ∷ es) d here = elim (Contains-append_cases (inside x) (inside_all es) d here) [
  | inl first ↦ (x, first_item x es, first)
  | inr more ↦ let rest = of_all es d more in (rest.0, later_item x es rest.1, rest.2)
]

-- what stands in a part stands in the expression, and so on
pub deeper : (e x d : Expr) → Contains (parts (form e)) x → Contains (inside x) d → Contains (inside e) d
deeper e x d part there =
    let P : List Expr → Type 0 = λ xs. Contains xs d in later_item e (below e)
    (subst P (sym (below_is e.kind)) (in_all (parts (form e)) x d part there))

pub inner : (e d : Expr) → Contains (inside e) d → (e ≡ d) ⊎ ((x : Expr) × Contains (parts (form e)) x × Contains
    (inside x) d)
inner e d here = elim (item_cases e (below e) here) [
  | inl same ↦ inl same
  | inr more ↦ let P : List Expr → Type 0 = λ xs. Contains xs d in
      inr (of_all (parts (form e)) d (subst P (below_is e.kind) more))
]

-- the list of an expression is closed under parts
abbrev IsClosed : Expr → Type 0
IsClosed e = (d x : Expr) → Contains (inside e) d → Contains (parts (form d)) x → Contains (inside e) x

closed : (e : Expr) → IsClosed e
closed = every IsClosed (λ e part d x here in_d. elim (inner e d here) [
  | inl same ↦ let P : Expr → Type 0 = λ z. Contains (parts (form z)) x in
      deeper e x x (subst P (sym same) in_d) (first_item x (below x))
  | inr (y, in_e, there) ↦ deeper e y x in_e (part y in_e d x there in_d)
])

-- what stands in an expression that stands in the specification stands there too
abbrev AllStand : Spec → Expr → Type 0
AllStand spec e = Stands spec e → (d : Expr) → Contains (inside e) d → Stands spec d

all_stand : (spec : Spec) (e : Expr) → AllStand spec e
all_stand spec = every (AllStand spec) (λ e part stands d here. elim (inner e d here) [
  | inl same ↦ let P : Expr → Type 0 = Stands spec in subst P same stands
  | inr (y, in_e, there) ↦ part y in_e (OfPart stands in_e) d there
])

in_prods : (ps : List Prod) (p : Prod) (d : Expr) → Contains ps p → Contains (inside p.body) d
    → Contains (inside_prods ps) d
in_prods [] p d here there = absurd (no_item here)
in_prods (q ∷ ps) p d here there = elim (item_cases q ps here) [
  | inl same ↦ let P : Prod → Type 0 = λ z. Contains (inside z.body) d in
      Contains-append_left (inside q.body) (inside_prods ps) d (subst P (sym same) there)
  | inr more ↦ Contains-append_right (inside q.body) (inside_prods ps) d (in_prods ps p d more there)
]

of_prods : (ps : List Prod) (d : Expr) → Contains (inside_prods ps) d
    → (p : Prod) × Contains ps p × Contains (inside p.body) d
of_prods [] d here = absurd (no_item here)
of_prods (q ∷ ps) d here = elim (Contains-append_cases (inside q.body) (inside_prods ps) d here) [
  | inl first ↦ (q, first_item q ps, first)
  | inr more ↦ let rest = of_prods ps d more in (rest.0, later_item q ps rest.1, rest.2)
]

-- the expressions that stand in a specification
abbrev pub all_exprs : Spec → List Expr
all_exprs spec = inside_prods spec.prods ++ inside spec.main

pub exprs_stand : (spec : Spec) (e : Expr) → Contains (all_exprs spec) e → Stands spec e
exprs_stand spec e here = elim (Contains-append_cases (inside_prods spec.prods) (inside spec.main) e here) [
  | inl first ↦ let p = of_prods spec.prods e first in all_stand spec p.0.body (OfProd p.1) e p.2
  | inr last ↦ all_stand spec spec.main OfMain e last
]

pub stands_listed : (spec : Spec) (e : Expr) → Stands spec e → Contains (all_exprs spec) e
stands_listed spec e OfMain = Contains-append_right (inside_prods spec.prods) (inside spec.main) spec.main
    (first_item spec.main (below spec.main))
stands_listed spec e (OfProd {p = p} here) = Contains-append_left (inside_prods spec.prods) (inside spec.main) p.body
    (in_prods spec.prods p p.body here (first_item p.body (below p.body)))
stands_listed spec e (OfPart {e = d} stands part) = elim (Contains-append_cases (inside_prods spec.prods)
    (inside spec.main) d (stands_listed spec d stands)) [
      | inl first ↦ let p = of_prods spec.prods d first in Contains-append_left (inside_prods spec.prods)
          (inside spec.main)
          e (in_prods spec.prods p.0 e p.1 (closed p.0.body d e p.2 part))
      | inr last ↦ Contains-append_right (inside_prods spec.prods) (inside spec.main) e (closed spec.main d e last part)
    ]
