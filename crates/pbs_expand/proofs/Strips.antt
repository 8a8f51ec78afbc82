-- An expression that is visited for another, which holds it alone.
use Rattle.std.proofs.Common.{◌≡◌, ℕ, Bool, true, false, List, [], ◌∷◌, refl, sym, ap, subst, ◌∙◌, ◌⊎◌, inl, inr}
use Rattle.std.proofs.Common.{nat_eq, arith}
use Rattle.std.specs.Prelude.{if◌then◌else◌}
use Rattle.std.proofs.lemmas.Bool.Decides.{nat_tests}
use Rattle.pbs_base.specs.declared.refusal.Span.{Span}
use Rattle.pbs_ast.specs.declared.syntax.Expr.{Expr}
use Rattle.pbs_ast.specs.declared.syntax.Kind as kind
use Rattle.pbs_ast.specs.declared.syntax.Kind.{Row_of-Expr, end_of-Expr, more_of-Expr, items-the_row-Expr}
use Rattle.pbs_names.specs.Forms.{Seq, Choice, Repeat, form, form_of, expr_of}
use Rattle.pbs_expand.specs.Parts.{stripped, stripped_from, stripped_row}

-- d is e, or is so for the one part of which e is made
pub data IsOnly (d : Expr) : Expr → Type 0 where
  Same : IsOnly d d
  OfSeq : {e x : Expr} → form e ≡ Seq (x ∷ []) → IsOnly d x → IsOnly d e
  OfChoice : {e x : Expr} → form e ≡ Choice (x ∷ []) → IsOnly d x → IsOnly d e
  OfOne : {e x : Expr} {m n : ℕ} → form e ≡ Repeat x m n → m ≡ 1 → IsOnly d x → IsOnly d e

-- what a row of items leaves: all of it, or its one item
abbrev RowGives : Expr → Expr → List Expr → Type 0
RowGives d all items = (d ≡ all) ⊎ ((x : Expr) × (items ≡ x ∷ []) × IsOnly d x)

seq_gives : (d e : Expr) (items : List Expr) → form e ≡ Seq items → RowGives d e items → IsOnly d e
seq_gives d e items is (inl same) = let P : Expr → Type 0 = λ z. IsOnly d z in subst P same Same
seq_gives d e items is (inr (x, one, only)) = OfSeq (is ∙ ap Seq one) only

choice_gives : (d e : Expr) (items : List Expr) → form e ≡ Choice items → RowGives d e items → IsOnly d e
choice_gives d e items is (inl same) = let P : Expr → Type 0 = λ z. IsOnly d z in subst P same Same
choice_gives d e items is (inr (x, one, only)) = OfChoice (is ∙ ap Choice one) only

one_gives : (d e x : Expr) (m n : ℕ) (b c : Bool) → form e ≡ Repeat x m n → nat_eq m 1 ≡ b
    → d ≡ (if b then (if c then stripped x else e) else e) → IsOnly (stripped x) x → IsOnly d e
one_gives d e x m n true true is one same only =
    let first : m ≡ 1 = grind (arith, nat_tests) in let P : Expr
    → Type 0 = λ z. IsOnly z e in subst P (sym same) (OfOne is first only)
one_gives d e x m n true false is one same only = let P : Expr → Type 0 = λ z. IsOnly z e in subst P (sym same) Same
one_gives d e x m n false c is one same only = let P : Expr → Type 0 = λ z. IsOnly z e in subst P (sym same) Same

abbrev mutual
  only_from : (span : Span) (k : kind.Kind) → IsOnly (stripped_from span k) (expr_of span k)
  only_from span kind.Empty = Same
  only_from span (kind.Terminal t) = Same
  only_from span (kind.Action name at) = Same
  only_from span (kind.Seq' n row) =
      let e = expr_of span (kind.Seq' n row) in seq_gives (stripped_row e row) e (items-the_row-Expr _ row) refl
      (row_gives e _ row)
  only_from span (kind.Choice' n row) =
      let e = expr_of span (kind.Choice' n row) in choice_gives (stripped_row e row) e (items-the_row-Expr _ row) refl
      (row_gives e _ row)
  only_from span (kind.Star' _ s e) = Same
  only_from span (kind.Plus' _ s e) = Same
  only_from span (kind.Opt' _ s e) = Same
  only_from span (kind.Hold' t _ s e) = Same
  only_from span (kind.Scope' _ s e _ s' x _ s'' h) = Same
  only_from span (kind.Name name) = Same
  only_from span (kind.Repeat' p s e m n) =
      let all = expr_of span (kind.Repeat' p s e m n) in
      one_gives (stripped_from span (kind.Repeat' p s e m n)) all (expr_of s e) m n (nat_eq m 1) (nat_eq n 1) refl
      refl refl (only_from s e)

  row_gives : (all : Expr) (n : _) (row : Row_of-Expr n)
      → RowGives (stripped_row all row) all (items-the_row-Expr n row)
  row_gives all n end_of-Expr = inl refl
  row_gives all n (more_of-Expr s e end_of-Expr) = inr (expr_of s e, refl, only_from s e)
  row_gives all n (more_of-Expr s e (more_of-Expr s' f rest)) = inl refl

pub only : (e : Expr) → IsOnly (stripped e) e
only e = only_from e.span e.kind

-- a bounded repetition is itself, or for one copy the copy
strips_from : (span : Span) (k : kind.Kind) (body : Expr) (m n : ℕ) → form_of k ≡ Repeat body m n
    → stripped_from span k ≡ (if nat_eq m 1 then (if nat_eq n 1 then stripped body else expr_of span k)
    else expr_of span k)
strips_from span (kind.Repeat' p s e a b) body m n is =
    let x : expr_of s e ≡ body = cc in let y : a ≡ m = cc in let z : b ≡ n = cc in
    let all = expr_of span (kind.Repeat' p s e a b) in
    let kept : Expr → ℕ → ℕ → Expr = λ t j k. if nat_eq j 1 then (if nat_eq k 1 then stripped t else all) else all in
    ap (λ t. kept t a b) x ∙ ap (λ j. kept body j b) y ∙ ap (kept body m) z
strips_from span k body m n is = cc

pub repeat_strips : (e body : Expr) (m n : ℕ) → form e ≡ Repeat body m n
    → stripped e ≡ (if nat_eq m 1 then (if nat_eq n 1 then stripped body else e) else e)
repeat_strips e = strips_from e.span e.kind
