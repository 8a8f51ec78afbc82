-- The lists of a walk.
use Rattle.std.proofs.Common.{◌≡◌, ◌<◌, ◌≤◌, ◌+◌, ◌*◌, ◌%◌, ◌^◌, ℕ, suc, false, length, drop, get_or, arith, List, ◌∷◌}
use Rattle.std.proofs.Common.{◌++◌, refl, sym, ap, ◌∙◌, append_assoc}
use Rattle.std.specs.Prelude.{nat_le}
use Rattle.std.proofs.Math.Seq.{drop-cons}
use Rattle.std.proofs.Math.Nat.{pow-le-pow_right, mod-eq_of_lt}
use Rattle.std.proofs.Math.Pow.{pow-lt}
use Rattle.std.proofs.lemmas.Bool.Decides.{nat_tests}
use Rattle.pbs_ast.specs.declared.syntax.Expr.{Expr}
use Rattle.pbs_ast.specs.declared.syntax.Prod.{Prod}
use Rattle.pbs_ast.specs.declared.syntax.Kind.{Seq, Choice, Row_of-Expr, end_of-Expr, more_of-Expr, items-the_row-Expr}
use Rattle.pbs_ast.specs.declared.syntax.Kind.{items_hidden-the_row-Expr-0}
use Rattle.pbs_ast.specs.declared.syntax.Kind.TheBlock.{hidden-the_row-Expr-0}
use Rattle.pbs_ast.specs.declared.syntax.SpecTerm.{SpecTerm, All, Any, Row_of-SpecTerm, end_of-SpecTerm}
use Rattle.pbs_ast.specs.declared.syntax.SpecTerm.{more_of-SpecTerm, items-the_row-SpecTerm}
use Rattle.pbs_ast.specs.declared.syntax.SpecTerm.{items_hidden-the_row-SpecTerm-0}
use Rattle.pbs_ast.specs.declared.syntax.SpecTerm.TheBlock.{hidden-the_row-SpecTerm-0}
use Rattle.pbs_names.specs.Forms.{expr_of}
use Rattle.pbs_check.specs.Using.{leaves, row_leaves}
use Rattle.pbs_check.specs.inner.Walking.{below_kind, row_inside, inside, inside_all, inside_prods, all_leaves}

-- a number of 32 bits is below the powers of 2 from 32 on
pub beyond_wide : (w n : ℕ) → 32 ≤ w → n < 2 ^ 32 → false ≡ nat_le (2 ^ w) n
beyond_wide w n wide small =
    let power : 2 ^ 32 ≤ 2 ^ w = pow-le-pow_right {n = 2} (omega arith) {i = 32} {j = w} wide in test (2 ^ w) (2 ^ 32)
    n power small
  where
    test : (p q n : ℕ) → q ≤ p → n < q → false ≡ nat_le p n
    test p q n above small = grind (arith, nat_tests)

pub power_fits : (w : ℕ) → w < 32 → 1 * 2 ^ w % 2 ^ 64 ≡ 2 ^ w
power_fits w small =
    let power : 2 ^ w < 2 ^ 64 = pow-lt {i = w} {j = 64} (omega arith) in let one : 1 * 2 ^ w ≡ 2 ^ w = omega arith in
    ap (λ x. x % 2 ^ 64) one ∙ mod-eq_of_lt {n = 2 ^ w} {m = 2 ^ 64} power

pub item_at : {X : Type 0} (xs : List X) (i : ℕ) (x : X) → i < length xs → x ≡ get_or xs i x
    → drop i xs ≡ x ∷ drop (i + 1) xs
item_at xs i x within is =
    let next : suc i ≡ i + 1 = omega arith in
    drop-cons xs i x within ∙ ap (λ z. z ∷ drop (suc i) xs) (sym is) ∙ ap (λ k. x ∷ drop k xs) next

pub leaves_at : (ts : List SpecTerm) (i : ℕ) (t : SpecTerm) → i < length ts → t ≡ get_or ts i t
    → all_leaves (drop i ts) ≡ leaves t ++ all_leaves (drop (i + 1) ts)
leaves_at ts i t within is = ap all_leaves (item_at ts i t within is)

pub inside_at : (es : List Expr) (i : ℕ) (e : Expr) → i < length es → e ≡ get_or es i e
    → inside_all (drop i es) ≡ inside e ++ inside_all (drop (i + 1) es)
inside_at es i e within is = ap inside_all (item_at es i e within is)

row_leaves_are : (n : _) (row : Row_of-SpecTerm n) → row_leaves row ≡ all_leaves (items-the_row-SpecTerm n row)
row_leaves_are n end_of-SpecTerm = refl
row_leaves_are n (more_of-SpecTerm t rest) = ap (λ xs. leaves t ++ xs) (row_leaves_are _ rest)

pub list_leaves : (items : List SpecTerm) → row_leaves (hidden-the_row-SpecTerm-0 items) ≡ all_leaves items
list_leaves items = row_leaves_are _ (hidden-the_row-SpecTerm-0 items)
    ∙ ap all_leaves (items_hidden-the_row-SpecTerm-0 items)

pub all_leaves_of : (t : SpecTerm) (items : List SpecTerm) → t ≡ All items → leaves t ≡ all_leaves items
all_leaves_of t items is = ap leaves is ∙ list_leaves items

pub any_leaves_of : (t : SpecTerm) (items : List SpecTerm) → t ≡ Any items → leaves t ≡ all_leaves items
any_leaves_of t items is = ap leaves is ∙ list_leaves items

pub row_inside_is : (n : _) (row : Row_of-Expr n) → row_inside row ≡ inside_all (items-the_row-Expr n row)
row_inside_is n end_of-Expr = refl
row_inside_is n (more_of-Expr s e rest) = ap (λ xs. inside (expr_of s e) ++ xs) (row_inside_is _ rest)

list_inside : (items : List Expr) → row_inside (hidden-the_row-Expr-0 items) ≡ inside_all items
list_inside items = row_inside_is _ (hidden-the_row-Expr-0 items) ∙ ap inside_all (items_hidden-the_row-Expr-0 items)

pub below_seq : (e : Expr) (items : List Expr) → e.kind ≡ Seq items → below_kind e.kind ≡ inside_all items
below_seq e items is = ap below_kind is ∙ list_inside items

pub below_choice : (e : Expr) (items : List Expr) → e.kind ≡ Choice items → below_kind e.kind ≡ inside_all items
below_choice e items is = ap below_kind is ∙ list_inside items

-- the front of a list was written, and one item or more came to it
pub moved_on : {X : Type 0} (old new front rest all : List X) → old ++ (front ++ rest) ≡ all → new ≡ old ++ front
    → new ++ rest ≡ all
moved_on old new front rest all so_far grown = ap (λ xs. xs ++ rest) grown ∙ append_assoc old front rest ∙ so_far

pub prods_at : (ps : List Prod) (i : ℕ) (p : Prod) → i < length ps → p ≡ get_or ps i p
    → inside_prods (drop i ps) ≡ inside p.body ++ inside_prods (drop (i + 1) ps)
prods_at ps i p within is = ap inside_prods (item_at ps i p within is)
