-- Facts of lists.
use Rattle.std.proofs.Common.{◌≡◌, ◌<◌, ◌+◌, ℕ, Bool, true, false, ◌&&◌, ◌||◌, List, length, drop, get_or, Option, Some}
use Rattle.std.proofs.Common.{None, refl, sym, ap, ◌∙◌}
use Rattle.pbs_ast.specs.declared.syntax.Expr.{Expr}
use Rattle.pbs_ast.specs.declared.syntax.Kind.{Seq, Choice, Row_of-Expr, end_of-Expr, more_of-Expr, items-the_row-Expr}
use Rattle.pbs_ast.specs.declared.syntax.Kind.{items_hidden-the_row-Expr-0}
use Rattle.pbs_ast.specs.declared.syntax.Kind.TheBlock.{hidden-the_row-Expr-0}
use Rattle.pbs_check.specs.declared.facts.Facts.{Facts}
use Rattle.pbs_check.specs.inner.Facts.{fact, after, either, choice_of, kind_facts, row_all, row_any, expr_facts}
use Rattle.pbs_check.specs.inner.Facts.{all_facts, any_facts}
use Rattle.pbs_check.proofs.WalkLemmas.{item_at}

and_assoc : (a b c : Bool) → ((a && b) && c) ≡ (a && (b && c))
and_assoc true b c = refl
and_assoc false b c = refl

or_assoc : (a b c : Bool) → ((a || b) || c) ≡ (a || (b || c))
or_assoc true b c = refl
or_assoc false b c = refl

same_fact : (a b c x y z : Bool) → a ≡ x → b ≡ y → c ≡ z → Some (fact a b c) ≡ Some (fact x y z)
same_fact a b c x y z p q r = cc

pub after_assoc : (a b c : Option Facts) → after (after a b) c ≡ after a (after b c)
after_assoc None b c = refl
after_assoc (Some a) None c = refl
after_assoc (Some a) (Some b) None = refl
after_assoc (Some a) (Some b) (Some c) =
    same_fact _ _ _ _ _ _ (and_assoc a.may_be_empty b.may_be_empty c.may_be_empty)
    (or_assoc a.has_terminal b.has_terminal c.has_terminal) (or_assoc a.is_busy b.is_busy c.is_busy)

pub either_assoc : (a b c : Option Facts) → either (either a b) c ≡ either a (either b c)
either_assoc None b c = refl
either_assoc (Some a) None c = refl
either_assoc (Some a) (Some b) None = refl
either_assoc (Some a) (Some b) (Some c) =
    same_fact _ _ _ _ _ _ (or_assoc a.may_be_empty b.may_be_empty c.may_be_empty)
    (or_assoc a.has_terminal b.has_terminal c.has_terminal) (or_assoc a.is_busy b.is_busy c.is_busy)

-- one item more
pub after_step : (known : List ℕ → Option Facts) (es : List Expr) (i : ℕ) (e : Expr) (old new more : Option Facts)
    → i < length es → e ≡ get_or es i e → after old (all_facts known (drop i es)) ≡ all_facts known es
    → more ≡ expr_facts known e → new ≡ after old more
    → after new (all_facts known (drop (i + 1) es)) ≡ all_facts known es
after_step known es i e old new more within is so_far facts grown =
    let rest = all_facts known (drop (i + 1) es) in
    ap (λ o. after o rest) (grown ∙ ap (after old) facts) ∙ after_assoc old (expr_facts known e) rest
    ∙ ap (λ xs. after old (all_facts known xs)) (sym (item_at es i e within is)) ∙ so_far

pub either_step : (known : List ℕ → Option Facts) (es : List Expr) (i : ℕ) (e : Expr) (old new more : Option Facts)
    → i < length es → e ≡ get_or es i e → either old (any_facts known (drop i es)) ≡ any_facts known es
    → more ≡ expr_facts known e → new ≡ either old more
    → either new (any_facts known (drop (i + 1) es)) ≡ any_facts known es
either_step known es i e old new more within is so_far facts grown =
    let rest = any_facts known (drop (i + 1) es) in
    ap (λ o. either o rest) (grown ∙ ap (either old) facts) ∙ either_assoc old (expr_facts known e) rest
    ∙ ap (λ xs. either old (any_facts known xs)) (sym (item_at es i e within is)) ∙ so_far

-- rows
pub row_all_is : (known : List ℕ → Option Facts) (n : _) (row : Row_of-Expr n)
    → row_all known row ≡ all_facts known (items-the_row-Expr n row)
row_all_is known n end_of-Expr = refl
row_all_is known n (more_of-Expr s e rest) = ap (after (kind_facts known e)) (row_all_is known _ rest)

pub row_any_is : (known : List ℕ → Option Facts) (n : _) (row : Row_of-Expr n)
    → row_any known row ≡ any_facts known (items-the_row-Expr n row)
row_any_is known n end_of-Expr = refl
row_any_is known n (more_of-Expr s e rest) = ap (either (kind_facts known e)) (row_any_is known _ rest)

pub seq_facts : (known : List ℕ → Option Facts) (e : Expr) (items : List Expr) → e.kind ≡ Seq items
    → expr_facts known e ≡ all_facts known items
seq_facts known e items is = ap (kind_facts known) is ∙ row_all_is known _ (hidden-the_row-Expr-0 items)
    ∙ ap (all_facts known) (items_hidden-the_row-Expr-0 items)

pub choice_facts : (known : List ℕ → Option Facts) (e : Expr) (items : List Expr) → e.kind ≡ Choice items
    → expr_facts known e ≡ choice_of items (any_facts known items)
choice_facts known e items is =
    ap (kind_facts known) is
    ∙ ap (choice_of (items-the_row-Expr _ (hidden-the_row-Expr-0 items)))
    (row_any_is known _ (hidden-the_row-Expr-0 items))
    ∙ ap (λ xs. choice_of xs (any_facts known xs)) (items_hidden-the_row-Expr-0 items)
