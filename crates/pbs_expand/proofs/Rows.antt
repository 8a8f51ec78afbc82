-- A list of one member is that member.
use Rattle.std.proofs.Common.{◌≡◌, ◌<◌, ◌≤◌, List, [], ◌∷◌, length, get_or, refl, sym, ap, ◌∙◌, arith, ◌⊎◌, inl, inr}
use Rattle.pbs_base.specs.declared.refusal.Span.{Span}
use Rattle.pbs_ast.specs.declared.syntax.Kind.{Seq, Choice, Row_of-Expr, end_of-Expr, more_of-Expr, items-the_row-Expr}
use Rattle.pbs_ast.specs.declared.syntax.Kind.{items_hidden-the_row-Expr-0}
use Rattle.pbs_ast.specs.declared.syntax.Kind.TheBlock.{hidden-the_row-Expr-0}
use Rattle.pbs_ast.specs.declared.syntax.Expr.{Expr}
use Rattle.pbs_expand.specs.Parts.{stripped, stripped_from, stripped_row}

single : {X : Type 0} → (xs : List X) (x : X) → 1 ≤ length xs → length xs < 2 → x ≡ get_or xs 0 x → xs ≡ x ∷ []
single [] x some few here = absurd (omega (arith, some))
single (y ∷ []) x some few here = ap (λ z. z ∷ []) (sym here)
single (y ∷ z ∷ zs) x some few here = absurd (omega (arith, few))

row_one : (n : _) (row : Row_of-Expr n) (all x : Expr) → items-the_row-Expr n row ≡ x ∷ []
    → stripped_row all row ≡ stripped x
row_one n end_of-Expr all x one = cc
row_one n (more_of-Expr span e end_of-Expr) all x one =
    let here : record { span = span; kind = e } ≡ x = cc in ap stripped here
row_one n (more_of-Expr span e (more_of-Expr span' f rest)) all x one = cc

row_many : (n : _) (row : Row_of-Expr n) (all : Expr) → (length (items-the_row-Expr n row) ≡ 1 → ⊥)
    → stripped_row all row ≡ all
row_many n end_of-Expr all many = refl
row_many n (more_of-Expr span e end_of-Expr) all many = absurd (many refl)
row_many n (more_of-Expr span e (more_of-Expr span' f rest)) all many = refl

pub seq_one : (span : Span) (items : List Expr) (x : Expr) → 1 ≤ length items → length items < 2
    → x ≡ get_or items 0 x → stripped_from span (Seq items) ≡ stripped x
seq_one span items x some few here =
    row_one _ (hidden-the_row-Expr-0 items) _ x (items_hidden-the_row-Expr-0 items ∙ single items x some few here)

pub choice_one : (span : Span) (items : List Expr) (x : Expr) → 1 ≤ length items → length items < 2
    → x ≡ get_or items 0 x → stripped_from span (Choice items) ≡ stripped x
choice_one span items x some few here =
    row_one _ (hidden-the_row-Expr-0 items) _ x (items_hidden-the_row-Expr-0 items ∙ single items x some few here)

pub seq_many : (span : Span) (items : List Expr) → (length items ≡ 1 → ⊥)
    → stripped_from span (Seq items) ≡ record { span = span; kind = Seq items }
seq_many span items many =
    row_many _ (hidden-the_row-Expr-0 items) _ (λ one. many (sym (ap length (items_hidden-the_row-Expr-0 items)) ∙ one))

pub choice_many : (span : Span) (items : List Expr) → (length items ≡ 1 → ⊥)
    → stripped_from span (Choice items) ≡ record { span = span; kind = Choice items }
choice_many span items many =
    row_many _ (hidden-the_row-Expr-0 items) _ (λ one. many (sym (ap length (items_hidden-the_row-Expr-0 items)) ∙ one))

-- the same for an expression, which is one of the two kinds of list
pub list_one : (all : Expr) (items : List Expr) (x : Expr) → ((all.kind ≡ Seq items) ⊎ (all.kind ≡ Choice items))
    → 1 ≤ length items → length items < 2 → x ≡ get_or items 0 x → stripped all ≡ stripped x
list_one all items x (inl e) some few here = ap (λ k. stripped_from all.span k) e
    ∙ seq_one all.span items x some few here
list_one all items x (inr e) some few here = ap (λ k. stripped_from all.span k) e
    ∙ choice_one all.span items x some few here

pub list_many : (all : Expr) (items : List Expr) → ((all.kind ≡ Seq items) ⊎ (all.kind ≡ Choice items))
    → (length items ≡ 1 → ⊥) → all ≡ stripped all
list_many all items (inl e) many =
    sym (ap (λ k. stripped_from all.span k) e ∙ seq_many all.span items many
    ∙ ap (λ k. record { span = all.span; kind = k }) (sym e))
list_many all items (inr e) many =
    sym (ap (λ k. stripped_from all.span k) e ∙ choice_many all.span items many
    ∙ ap (λ k. record { span = all.span; kind = k }) (sym e))
