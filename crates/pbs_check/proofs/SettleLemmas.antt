-- What is learnt of a production is true; and where an expression is known, so are its parts.
use Rattle.std.proofs.Common.{◌≡◌, inl, inr, ℕ, ◌==◌, Bool, true, false, cond, nat_eq, List, [], ◌∷◌, Option, Some}
use Rattle.std.proofs.Common.{refl, sym, ap, subst, ◌∙◌}
use Rattle.std.specs.Prelude.{Contains}
use Rattle.std.specs.Cmp.Lexicographic.{pointwise, same_text}
use Rattle.pbs_ast.proofs.Items.{no_item, item_cases}
use Rattle.pbs_ast.specs.declared.syntax.Expr.{Expr}
use Rattle.pbs_ast.specs.declared.syntax.Prod.{Prod}
use Rattle.pbs_ast.specs.declared.syntax.Kind as kind
use Rattle.pbs_names.specs.Forms as forms
use Rattle.pbs_names.specs.Forms.{form_of, parts}
use Rattle.pbs_check.specs.declared.facts.Facts.{Facts}
use Rattle.pbs_check.specs.inner.Facts.{choice_of, kind_facts, expr_facts, all_facts, any_facts}
use Rattle.pbs_check.specs.inner.Truth.{FactsAre, AreFirst, Settles}
use Rattle.pbs_check.proofs.FactLemmas.{row_all_is, row_any_is}
use Rattle.pbs_check.proofs.FactTruth.{after_some, either_some, or_some, scope_some, facts_are, named_is}

abbrev pub Known : (List ℕ → Option Facts) → Expr → Type 0
Known known e = (f : Facts) × (expr_facts known e ≡ Some f)

all_known : (known : List ℕ → Option Facts) (es : List Expr) (f : Facts) → all_facts known es ≡ Some f → (x : Expr)
    → Contains es x → Known known x
all_known known [] f h x here = absurd (no_item here)
all_known known (y ∷ es) f h x here =
    let two = after_some (expr_facts known y) (all_facts known es) f h in let P : Expr → Type 0 = Known known in
    elim (item_cases y es here) [
      | inl same ↦ subst P same (two.0, two.2)
      | inr more ↦ all_known known es two.1 two.3 x
          more
    ]

any_known : (known : List ℕ → Option Facts) (es : List Expr) (f : Facts) → any_facts known es ≡ Some f → (x : Expr)
    → Contains es x → Known known x
any_known known [] f h x here = absurd (no_item here)
any_known known (y ∷ es) f h x here =
    let two = either_some (expr_facts known y) (any_facts known es) f h in let P : Expr → Type 0 = Known known in
    elim (item_cases y es here) [
      | inl same ↦ subst P same (two.0, two.2)
      | inr more ↦ any_known known es two.1 two.3 x
          more
    ]

choice_known : (known : List ℕ → Option Facts) (es : List Expr) (f : Facts)
    → choice_of es (any_facts known es) ≡ Some f → (x : Expr) → Contains es x → Known known x
choice_known known [] f h x here = absurd (no_item here)
choice_known known (y ∷ es) f h x here = any_known known (y ∷ es) f h x here

only_known : (known : List ℕ → Option Facts) (d : Expr) (f : Facts) → expr_facts known d ≡ Some f → (x : Expr)
    → Contains (d ∷ []) x → Known known x
only_known known d f h x here =
    let P : Expr → Type 0 = Known known in elim (item_cases d [] here)
    [ inl same ↦ subst P same (f, h) | inr more ↦ absurd (no_item more) ]

-- where an expression is known, so are its parts
pub parts_known : (known : List ℕ → Option Facts) (k : kind.Kind) (f : Facts) → kind_facts known k ≡ Some f
    → (x : Expr) → Contains (parts (form_of k)) x → Known known x
parts_known known kind.Empty f h x here = absurd (no_item here)
parts_known known (kind.Terminal t) f h x here = absurd (no_item here)
parts_known known (kind.Action name at) f h x here = absurd (no_item here)
parts_known known (kind.Seq' n row) f h x here = all_known known _ f (sym (row_all_is known _ row) ∙ h) x here
parts_known known (kind.Choice' n row) f h x here = choice_known known _ f
    (ap (choice_of _) (sym (row_any_is known _ row)) ∙ h) x here
parts_known known (kind.Star' p s e) f h x here = let some = or_some true (kind_facts known e) f h in only_known known
    (forms.expr_of s e) some.0 some.1 x here
parts_known known (kind.Plus' p s e) f h x here = only_known known (forms.expr_of s e) f h x here
parts_known known (kind.Opt' p s e) f h x here = let some = or_some true (kind_facts known e) f h in only_known known
    (forms.expr_of s e) some.0 some.1 x here
parts_known known (kind.Hold' t p s e) f h x here = only_known known (forms.expr_of s e) f h x here
parts_known known (kind.Scope' p s e q s' y r s'' z) f h x here =
    let b = forms.expr_of s e in let c = forms.expr_of s' y in let d = forms.expr_of s'' z in let P : Expr
    → Type 0 = Known known in
    let some = scope_some (kind_facts known e) (kind_facts known y) (kind_facts known z) f h in
    elim (item_cases b (c ∷ d ∷ []) here) [
      | inl same ↦ subst P same (some.0, some.3)
      | inr more ↦ elim (item_cases c (d ∷ []) more)
          [ inl same ↦ subst P same (some.1, some.4) | inr last ↦ only_known known d some.2 some.5 x last ]
    ]
parts_known known (kind.Name name) f h x here = absurd (no_item here)
parts_known known (kind.Repeat' p s e m n) f h x here = let some = or_some (nat_eq m 0) (kind_facts known e) f h in
    only_known known (forms.expr_of s e) some.0 some.1 x here

-- what is learnt of a production is true
pub learnt : (prods : List Prod) (p : Prod) (facts : Facts) (old new : List ℕ → Option Facts) → AreFirst prods
    → Contains prods p → Settles prods old → expr_facts old p.body ≡ Some facts
    → ((name : List ℕ) → new name ≡ cond (pointwise ◌==◌ p.name name) (Some facts) (old name)) → Settles prods new
learnt prods p facts old new are here so_far found updates = record {
  knows = λ name f h. known_is name f (pointwise ◌==◌ p.name name) refl (sym (updates name) ∙ h);
}
  where
    own : FactsAre prods (forms.Name p.name) facts
    own = named_is prods p.name p.body facts (are.first p here) (facts_are prods old so_far.knows p.body facts found)

    known_is : (name : List ℕ) (f : Facts) (b : Bool) → pointwise ◌==◌ p.name name ≡ b
        → cond b (Some facts) (old name) ≡ Some f → FactsAre prods (forms.Name name) f
    known_is name f true same h =
        let e : p.name ≡ name = same_text p.name name (sym same) in let g : facts ≡ f = cc in
        let P : List ℕ → Type 0 = λ n. FactsAre prods (forms.Name n) f in let Q : Facts
        → Type 0 = FactsAre prods (forms.Name p.name) in subst P e (subst Q g own)
    known_is name f false other h = so_far.knows name f h
