-- Rules 18 and 19 are broken where the code finds it.
use Rattle.std.proofs.Common.{◌≡◌, ◌≤◌, ◌<◌, ◌^◌, ◌⊎◌, inl, ℕ, ◌+◌, ◌==◌, length, Bool, true, false, not, ◌&&◌, ◌||◌}
use Rattle.std.proofs.Common.{nat_eq, nat_lt, List, [], ◌∷◌, Option, Some, None, refl, sym, ap, subst, ◌∙◌, arith}
use Rattle.std.specs.Prelude.{Contains, if◌then◌else◌, nat_le}
use Rattle.std.proofs.lemmas.Bool.Decides.{nat_tests}
use Rattle.pbs_base.specs.declared.refusal.Span.{Span}
use Rattle.pbs_ast.specs.declared.syntax.Decl.{Decl}
use Rattle.pbs_ast.specs.declared.syntax.Expr.{Expr}
use Rattle.pbs_ast.specs.declared.syntax.Level.{Level}
use Rattle.pbs_ast.specs.declared.syntax.Spec.{Spec}
use Rattle.pbs_names.specs.declared.buses.Bus.{Bus}
use Rattle.std.specs.Option.{option_map}
use Rattle.std.specs.Cmp.Lexicographic.{pointwise}
use Rattle.pbs_names.specs.Naming.{bus_of, bus_from, inputs_of}
use Rattle.pbs_names.specs.Forms as forms
use Rattle.pbs_names.specs.Forms.{Form, form}
use Rattle.pbs_check.specs.declared.uses.Look.TheVariants as looks
use Rattle.pbs_check.specs.declared.uses.Tables.{Tables}
use Rattle.pbs_check.specs.Least.{span_le, IsLeast, least_by}
use Rattle.pbs_check.specs.Using.{Leaf, NameLeaf, EqualLeaf, leaves, form_leaves, Rule18, TooLarge, Rule19, WrongCopies}
use Rattle.pbs_check.specs.inner.Walking.{bus_width, too_large, leaf_broken, form_broken, own_broken, set_broken}
use Rattle.pbs_check.specs.inner.Walking.{level_broken}
use Rattle.pbs_check.specs.inner.Stages.{found_in}
use Rattle.pbs_check.proofs.LeastLemmas.{span_refl, least_either, least_same, least_by_is, least_of_none, OneOf, ByItem}
use Rattle.pbs_check.proofs.StandLemmas.{all_exprs, exprs_stand, stands_listed}

-- nothing is broken
pub data Nothing {X : Type 0} (x : X) (s : Span) : Type 0 where

pub nothing_is : {X : Type 0} (x : X) → IsLeast (Nothing x) None
nothing_is x = λ s p. no p
  where
    no : {s : Span} → Nothing x s → ⊥
    no p = elim p [ ]

-- the comparison's number is too large
data LeafTooLarge (inputs : List Decl) (leaf : Leaf) (s : Span) : Type 0 where
  Large : {name : List ℕ} {span at : Span} {number : ℕ} {bus : Bus} → leaf ≡ EqualLeaf name span number at
      → bus_of inputs name ≡ Some bus → 2 ^ bus.width ≤ number → at ≡ s → LeafTooLarge inputs leaf s

large_test : (p n : ℕ) (b : Bool) → nat_le p n ≡ b → b ≡ true → p ≤ n
large_test p n b is set = let h : nat_le p n ≡ true = is ∙ set in grind (arith, nat_tests)

small_test : (p n : ℕ) (b : Bool) → nat_le p n ≡ b → b ≡ false → n < p
small_test p n b is unset = let h : nat_le p n ≡ false = is ∙ unset in grind (arith, nat_tests)

bus_width_is : (n : ℕ) (ds : List Decl) (name : List ℕ)
    → bus_width ds name ≡ option_map (λ (b : Bus). b.width) (bus_from n ds name)
bus_width_is n [] name = refl
bus_width_is n (d ∷ ds) name =
    elim (not (nat_eq d.width 0) && pointwise ◌==◌ d.name name) as
    (λ b. (if b then Some d.width else bus_width ds name) ≡ option_map (λ (b : Bus). b.width)
    (if b then Some (record { start = n; width = d.width }) else bus_from (n + length (inputs_of d)) ds name))
    [ true ↦ refl | false ↦ bus_width_is (n + length (inputs_of d)) ds name ]

leaf_is : (inputs : List Decl) (tables : Tables) (leaf : Leaf)
    → IsLeast (LeafTooLarge inputs leaf) (leaf_broken looks.Numbers tables inputs leaf)
leaf_is inputs tables (NameLeaf name span) = λ s p. no p
  where
    no : {s : Span} → LeafTooLarge inputs (NameLeaf name span) s → ⊥
    no (Large same is large at) = cc
leaf_is inputs tables (EqualLeaf name span number at) =
    let P : Option ℕ → Type 0 = λ o. IsLeast (LeafTooLarge inputs (EqualLeaf name span number at))
    (too_large o number at) in
    subst P (sym (bus_width_is 0 inputs name)) (by_bus (bus_of inputs name) refl)
  where
    no_bus : {s : Span} → bus_of inputs name ≡ None → LeafTooLarge inputs (EqualLeaf name span number at) s → ⊥
    no_bus none (Large {name = other} same is large place) = let e : name ≡ other = cc in let f : bus_of inputs name ≡
        bus_of inputs other = ap (bus_of inputs) e in cc

    fits : {s : Span} (bus : Bus) → bus_of inputs name ≡ Some bus → number < 2 ^ bus.width
        → LeafTooLarge inputs (EqualLeaf name span number at) s → ⊥
    fits bus here small (Large {name = other} {number = n} {bus = b} same is large place) =
        let e : name ≡ other = cc in let f : bus_of inputs name ≡ bus_of inputs other = ap (bus_of inputs) e in let g
        : bus ≡ b = cc in let m : number ≡ n = cc in
        let w : 2 ^ bus.width ≡ 2 ^ b.width = ap (λ (z : Bus). 2 ^ z.width) g in absurd
        (omega (arith, small, large, w, m))

    only : {s : Span} → LeafTooLarge inputs (EqualLeaf name span number at) s → span_le at s ≡ true
    only (Large {at = there} same is large place) =
        let P : Span → Type 0 = λ t. span_le at t ≡ true in let e : at ≡ there = cc in subst P (e
        ∙ place) (span_refl at)

    by_test : (bus : Bus) → bus_of inputs name ≡ Some bus → (b : Bool) → nat_le (2 ^ bus.width) number ≡ b
        → IsLeast (LeafTooLarge inputs (EqualLeaf name span number at)) (if b then Some at else None)
    by_test bus here true is = (Large refl here (large_test (2 ^ bus.width) number true is refl) refl, λ s p. only p)
    by_test bus here false is = λ s p. fits bus here (small_test (2 ^ bus.width) number false is refl) p

    by_bus : (o : Option Bus) → bus_of inputs name ≡ o
        → IsLeast (LeafTooLarge inputs (EqualLeaf name span number at))
        (too_large (option_map (λ (b : Bus). b.width) o) number at)
    by_bus None none = λ s p. no_bus none p
    by_bus (Some bus) here = by_test bus here (nat_le (2 ^ bus.width) number) refl

large_is : (inputs : List Decl) (tables : Tables) (span : Span) (f : Form)
    → IsLeast (OneOf (LeafTooLarge inputs) (form_leaves f)) (form_broken looks.Numbers tables inputs span f)
large_is inputs tables span forms.Empty = least_of_none (LeafTooLarge inputs)
large_is inputs tables span (forms.Terminal t) = least_by_is (LeafTooLarge inputs)
    (leaf_broken looks.Numbers tables inputs) (leaf_is inputs tables) (leaves t)
large_is inputs tables span (forms.Action name at) = least_of_none (LeafTooLarge inputs)
large_is inputs tables span (forms.Seq items) = least_of_none (LeafTooLarge inputs)
large_is inputs tables span (forms.Choice items) = least_of_none (LeafTooLarge inputs)
large_is inputs tables span (forms.Star b) = least_of_none (LeafTooLarge inputs)
large_is inputs tables span (forms.Plus b) = least_of_none (LeafTooLarge inputs)
large_is inputs tables span (forms.Opt b) = least_of_none (LeafTooLarge inputs)
large_is inputs tables span (forms.Hold t b) = least_by_is (LeafTooLarge inputs)
    (leaf_broken looks.Numbers tables inputs) (leaf_is inputs tables) (leaves t)
large_is inputs tables span (forms.Scope b x h) = least_of_none (LeafTooLarge inputs)
large_is inputs tables span (forms.Name name) = least_of_none (LeafTooLarge inputs)
large_is inputs tables span (forms.Repeat b m n) = least_of_none (LeafTooLarge inputs)

abbrev HasLarge : List Decl → Expr → Span → Type 0
HasLarge inputs e s = OneOf (LeafTooLarge inputs) (form_leaves (form e)) s

abbrev pub NoneListed : Level → Span → Type 0
NoneListed l s = OneOf Nothing l.sets s

pub rule_18_is : (spec : Spec) (tables : Tables) → IsLeast (Rule18 spec) (found_in looks.Numbers tables spec)
rule_18_is spec tables =
    least_either (OneOf (HasLarge spec.inputs) (all_exprs spec)) (OneOf NoneListed spec.levels) (Rule18 spec)
    (least_by (own_broken looks.Numbers tables spec.inputs) (all_exprs spec))
    (least_by (level_broken looks.Numbers tables) spec.levels)
    (least_by_is (HasLarge spec.inputs) (own_broken looks.Numbers tables spec.inputs)
    (λ e. large_is spec.inputs tables e.span (form e)) (all_exprs spec))
    (least_by_is NoneListed (level_broken looks.Numbers tables)
    (λ l. least_by_is Nothing (set_broken looks.Numbers tables) (λ st. nothing_is st) l.sets) spec.levels)
    (λ s p. to p) (λ s p. absurd (none p)) (λ s r. from r)
  where
    to : {s : Span} → OneOf (HasLarge spec.inputs) (all_exprs spec) s → Rule18 spec s
    to (ByItem {x = e} here (ByItem {x = leaf} there (Large same is large at))) =
        let P : Span → Type 0 = Rule18 spec in let Q : Leaf → Type 0 = Contains (form_leaves (form e)) in
        subst P at (TooLarge (exprs_stand spec e here) (subst Q same there) is large)

    none : {s : Span} → OneOf NoneListed spec.levels s → ⊥
    none (ByItem here (ByItem there p)) = elim p [ ]

    from : {s : Span} → Rule18 spec s → OneOf (HasLarge spec.inputs) (all_exprs spec) s ⊎ OneOf NoneListed spec.levels s
    from (TooLarge {e = e} stands there is large) = inl
        (ByItem (stands_listed spec e stands) (ByItem there (Large refl is large refl)))

-- the expression is a repetition with the wrong numbers
data CopiesWrong (e : Expr) (f : Form) (s : Span) : Type 0 where
  Wrong : {b : Expr} {m n : ℕ} → f ≡ forms.Repeat b m n → ((n < m) ⊎ ((n ≡ 0) ⊎ (4096 < n))) → e.span ≡ s
      → CopiesWrong e f s

wrong_test : (m n : ℕ) → (nat_lt n m || (nat_eq n 0 || nat_lt 4096 n)) ≡ true → (n < m) ⊎ ((n ≡ 0) ⊎ (4096 < n))
wrong_test m n h = grind (arith, nat_tests)

right_test : (m n : ℕ) → (nat_lt n m || (nat_eq n 0 || nat_lt 4096 n)) ≡ false → ((n < m) ⊎ ((n ≡ 0) ⊎ (4096 < n))) → ⊥
right_test m n h w = grind (arith, nat_tests)

no_leaves : (tables : Tables) (inputs : List Decl) (leaf : Leaf)
    → IsLeast (Nothing leaf) (leaf_broken looks.Copies tables inputs leaf)
no_leaves tables inputs (NameLeaf name span) = nothing_is (NameLeaf name span)
no_leaves tables inputs (EqualLeaf name span number at) = nothing_is (EqualLeaf name span number at)

none_wrong : (e : Expr) (f : Form) → ((b : Expr) (m n : ℕ) → f ≡ forms.Repeat b m n → ⊥)
    → IsLeast (CopiesWrong e f) None
none_wrong e f other = λ s p. no p
  where
    no : {s : Span} → CopiesWrong e f s → ⊥
    no (Wrong {b = b} {m = m} {n = n} same wrong is) = other b m n same

no_terms : (tables : Tables) (inputs : List Decl) (e : Expr) (f : Form) (xs : List Leaf)
    → ((b : Expr) (m n : ℕ) → f ≡ forms.Repeat b m n → ⊥)
    → IsLeast (CopiesWrong e f) (least_by (leaf_broken looks.Copies tables inputs) xs)
no_terms tables inputs e f xs other =
    least_same (OneOf Nothing xs) (CopiesWrong e f) (least_by (leaf_broken looks.Copies tables inputs) xs)
    (λ s p. absurd (none p)) (λ s p. absurd (no p))
    (least_by_is Nothing (leaf_broken looks.Copies tables inputs) (no_leaves tables inputs) xs)
  where
    none : {s : Span} → OneOf Nothing xs s → ⊥
    none (ByItem here p) = elim p [ ]

    no : {s : Span} → CopiesWrong e f s → ⊥
    no (Wrong {b = b} {m = m} {n = n} same wrong is) = other b m n same

copies_is : (e b : Expr) (m n : ℕ) (t : Bool) → (nat_lt n m || (nat_eq n 0 || nat_lt 4096 n)) ≡ t
    → IsLeast (CopiesWrong e (forms.Repeat b m n)) (if t then Some e.span else None)
copies_is e b m n true is = (Wrong refl (wrong_test m n is) refl, λ s p. only p)
  where
    only : {s : Span} → CopiesWrong e (forms.Repeat b m n) s → span_le e.span s ≡ true
    only (Wrong same wrong at) = let P : Span → Type 0 = λ t. span_le e.span t ≡ true in subst P at (span_refl e.span)
copies_is e b m n false is = λ s p. no p
  where
    no : {s : Span} → CopiesWrong e (forms.Repeat b m n) s → ⊥
    no (Wrong {m = k} {n = l} same wrong at) =
        let p : m ≡ k = cc in let q : n ≡ l = cc in
        let W : ℕ → Type 0 = λ z. (n < z) ⊎ ((n ≡ 0) ⊎ (4096 < n)) in let V : ℕ
        → Type 0 = λ z. (z < k) ⊎ ((z ≡ 0) ⊎ (4096 < z)) in
        right_test m n is (subst W (sym p) (subst V (sym q) wrong))

wrong_is : (tables : Tables) (inputs : List Decl) (e : Expr) (f : Form)
    → IsLeast (CopiesWrong e f) (form_broken looks.Copies tables inputs e.span f)
wrong_is tables inputs e forms.Empty = none_wrong e forms.Empty (λ b m n same. cc)
wrong_is tables inputs e (forms.Terminal t) = no_terms tables inputs e (forms.Terminal t) (leaves t) (λ d m n same. cc)
wrong_is tables inputs e (forms.Action name at) = none_wrong e (forms.Action name at) (λ b m n same. cc)
wrong_is tables inputs e (forms.Seq items) = none_wrong e (forms.Seq items) (λ b m n same. cc)
wrong_is tables inputs e (forms.Choice items) = none_wrong e (forms.Choice items) (λ b m n same. cc)
wrong_is tables inputs e (forms.Star b) = none_wrong e (forms.Star b) (λ d m n same. cc)
wrong_is tables inputs e (forms.Plus b) = none_wrong e (forms.Plus b) (λ d m n same. cc)
wrong_is tables inputs e (forms.Opt b) = none_wrong e (forms.Opt b) (λ d m n same. cc)
wrong_is tables inputs e (forms.Hold t b) = no_terms tables inputs e (forms.Hold t b) (leaves t) (λ d m n same. cc)
wrong_is tables inputs e (forms.Scope b x h) = none_wrong e (forms.Scope b x h) (λ d m n same. cc)
wrong_is tables inputs e (forms.Name name) = none_wrong e (forms.Name name) (λ b m n same. cc)
wrong_is tables inputs e (forms.Repeat b m n) = copies_is e b m n (nat_lt n m || (nat_eq n 0 || nat_lt 4096 n)) refl

abbrev IsWrong : Expr → Span → Type 0
IsWrong e s = CopiesWrong e (form e) s

pub rule_19_is : (spec : Spec) (tables : Tables) → IsLeast (Rule19 spec) (found_in looks.Copies tables spec)
rule_19_is spec tables =
    least_either (OneOf IsWrong (all_exprs spec)) (OneOf NoneListed spec.levels) (Rule19 spec)
    (least_by (own_broken looks.Copies tables spec.inputs) (all_exprs spec))
    (least_by (level_broken looks.Copies tables) spec.levels)
    (least_by_is IsWrong (own_broken looks.Copies tables spec.inputs) (λ e. wrong_is tables spec.inputs e (form e))
    (all_exprs spec))
    (least_by_is NoneListed (level_broken looks.Copies tables)
    (λ l. least_by_is Nothing (set_broken looks.Copies tables) (λ st. nothing_is st) l.sets) spec.levels)
    (λ s p. to p) (λ s p. absurd (none p)) (λ s r. from r)
  where
    to : {s : Span} → OneOf IsWrong (all_exprs spec) s → Rule19 spec s
    to (ByItem {x = e} here (Wrong same wrong at)) = let P : Span
        → Type 0 = Rule19 spec in subst P at (WrongCopies (exprs_stand spec e here) same wrong)

    none : {s : Span} → OneOf NoneListed spec.levels s → ⊥
    none (ByItem here (ByItem there p)) = elim p [ ]

    from : {s : Span} → Rule19 spec s → OneOf IsWrong (all_exprs spec) s ⊎ OneOf NoneListed spec.levels s
    from (WrongCopies {e = e} stands same wrong) = inl (ByItem (stands_listed spec e stands) (Wrong same wrong refl))
