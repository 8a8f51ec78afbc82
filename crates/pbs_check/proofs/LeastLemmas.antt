-- The least of spans.
use Rattle.std.proofs.Common.{◌≡◌, ℕ, ◌+◌, ◌<◌, subst, map, Bool, true, false, ◌⊎◌, inl, inr, List, [], ◌∷◌, ◌++◌}
use Rattle.std.proofs.Common.{Option, Some, None, refl, sym, ap, ◌∙◌, arith, IsTrue}
use Rattle.std.specs.Prelude.{if◌then◌else◌, Contains}
use Rattle.std.proofs.lemmas.Bool.Decides.{nat_tests, eqb_tells}
use Rattle.pbs_ast.proofs.Items.{first_item, later_item, no_item, item_cases}
use Rattle.pbs_base.specs.declared.refusal.Span.{Span}
use Rattle.pbs_check.specs.Least.{span_le, earlier_span, IsLeast, least_of, least_by}

pub span_refl : (a : Span) → span_le a a ≡ true
span_refl a = grind (arith, nat_tests)

pub span_trans : (a b c : Span) → span_le a b ≡ true → span_le b c ≡ true → span_le a c ≡ true
span_trans a b c p q = grind (arith, nat_tests)

pub span_total : (a b : Span) → span_le a b ≡ false → span_le b a ≡ true
span_total a b p = grind (arith, nat_tests)

span_not : (a b c : Span) → span_le a b ≡ false → span_le b c ≡ false → span_le a c ≡ false
span_not a b c p q = grind (arith, nat_tests)

earlier-true : (a b : Span) → span_le a b ≡ true → earlier_span a b ≡ a
earlier-true a b h = ap (λ x. if x then a else b) h

earlier-false : (a b : Span) → span_le a b ≡ false → earlier_span a b ≡ b
earlier-false a b h = ap (λ x. if x then a else b) h

earlier_assoc : (a b c : Span) (x y : Bool) → span_le a b ≡ x → span_le b c ≡ y
    → earlier_span (earlier_span a b) c ≡ earlier_span a (earlier_span b c)
earlier_assoc a b c true true p q =
    ap (λ s. earlier_span s c) (earlier-true a b p) ∙ earlier-true a c (span_trans a b c p q)
    ∙ sym (ap (earlier_span a) (earlier-true b c q) ∙ earlier-true a b p)
earlier_assoc a b c true false p q = ap (λ s. earlier_span s c) (earlier-true a b p)
    ∙ sym (ap (earlier_span a) (earlier-false b c q))
earlier_assoc a b c false true p q =
    ap (λ s. earlier_span s c) (earlier-false a b p) ∙ earlier-true b c q
    ∙ sym (ap (earlier_span a) (earlier-true b c q) ∙ earlier-false a b p)
earlier_assoc a b c false false p q =
    ap (λ s. earlier_span s c) (earlier-false a b p) ∙ earlier-false b c q
    ∙ sym (ap (earlier_span a) (earlier-false b c q) ∙ earlier-false a c (span_not a b c p q))

pub least_assoc : (a b c : Option Span) → least_of (least_of a b) c ≡ least_of a (least_of b c)
least_assoc None b c = refl
least_assoc (Some a) None c = refl
least_assoc (Some a) (Some b) None = refl
least_assoc (Some a) (Some b) (Some c) = ap Some (earlier_assoc a b c (span_le a b) (span_le b c) refl refl)

pub least_by-append : {X : Type 0} (f : X → Option Span) (xs ys : List X)
    → least_by f (xs ++ ys) ≡ least_of (least_by f xs) (least_by f ys)
least_by-append f [] ys = refl
least_by-append f (x ∷ xs) ys = ap (least_of (f x)) (least_by-append f xs ys)
    ∙ sym (least_assoc (f x) (least_by f xs) (least_by f ys))

-- one item more of a list was looked at
pub least_step : {X : Type 0} (f : X → Option Span) (found more old new : Option Span) (all xs rest : List X)
    → all ≡ xs ++ rest → least_of old (least_by f all) ≡ found → more ≡ least_by f xs → new ≡ least_of old more
    → least_of new (least_by f rest) ≡ found
least_step f found more old new all xs rest split so_far is finds =
    ap (λ o. least_of o (least_by f rest)) finds ∙ least_assoc old more (least_by f rest)
    ∙ ap (λ o. least_of old (least_of o (least_by f rest))) is
    ∙ ap (least_of old) (sym (ap (least_by f) split ∙ least_by-append f xs rest)) ∙ so_far

pub three_least : {X : Type 0} (f : X → Option Span) (xs ys zs : List X) (a b c last r : Option Span)
    → a ≡ least_by f xs → b ≡ least_by f ys → c ≡ least_by f zs → last ≡ least_of b c → r ≡ least_of a last
    → r ≡ least_by f (xs ++ (ys ++ zs))
three_least f xs ys zs a b c last r p q s both all =
    all ∙ ap (λ o. least_of o last) p ∙ ap (least_of (least_by f xs))
    (both ∙ ap (λ o. least_of o c) q ∙ ap (least_of (least_by f ys)) s ∙ sym (least_by-append f ys zs))
    ∙ sym (least_by-append f xs (ys ++ zs))

pub two_least : {X : Type 0} (f : X → Option Span) (xs ys : List X) (a b c d ab r : Option Span) → a ≡ least_by f xs
    → b ≡ least_by f ys → c ≡ d → ab ≡ least_of a b → r ≡ least_of ab c → r ≡ least_of (least_by f (xs ++ ys)) d
two_least f xs ys a b c d ab r p q s both all =
    all ∙ ap (least_of ab) s ∙ ap (λ o. least_of o d) (both ∙ ap (λ o. least_of o b) p
    ∙ ap (least_of (least_by f xs)) q ∙ sym (least_by-append f xs ys))

-- ---- the least of what is broken
pub least_either : (P Q R : Span → Type 0) (a b : Option Span) → IsLeast P a → IsLeast Q b → ((s : Span) → P s → R s)
    → ((s : Span) → Q s → R s) → ((s : Span) → R s → P s ⊎ Q s) → IsLeast R (least_of a b)
least_either P Q R None None p q left right split = λ s r. elim (split s r) [ inl h ↦ p s h | inr h ↦ q s h ]
least_either P Q R None (Some t) p q left right split =
    (right t q.0, λ s r. elim (split s r) [ inl h ↦ absurd (p s h) | inr h ↦ q.1 s h ])
least_either P Q R (Some a) None p q left right split =
    (left a p.0, λ s r. elim (split s r) [ inl h ↦ p.1 s h | inr h ↦ absurd (q s h) ])
least_either P Q R (Some a) (Some b) p q left right split = chosen (span_le a b) refl
  where
    chosen : (x : Bool) → span_le a b ≡ x → R (if x then a else b) ×
        ((s : Span) → R s → IsTrue (span_le (if x then a else b) s))
    chosen true h = (
      left a p.0,
      λ s r. elim (split s r)
          [ inl here ↦ p.1 s here | inr there ↦ span_trans a b s h (q.1 s there) ],
    )
    chosen false h = (
      right b q.0,
      λ s r. elim (split s r)
          [ inl here ↦ span_trans b a s (span_total a b h) (p.1 s here) | inr there ↦ q.1 s there ],
    )

-- the same fact in other words
pub least_same : (P Q : Span → Type 0) (a : Option Span) → ((s : Span) → P s → Q s) → ((s : Span) → Q s → P s)
    → IsLeast P a → IsLeast Q a
least_same P Q None to from p = λ s q. p s (from s q)
least_same P Q (Some a) to from p = (to a p.0, λ s q. p.1 s (from s q))

-- what one of the items breaks
pub data OneOf {X : Type 0} (P : X → Span → Type 0) (xs : List X) (s : Span) : Type 0 where
  ByItem : {x : X} → Contains xs x → P x s → OneOf P xs s

pub least_by_is : {X : Type 0} (P : X → Span → Type 0) (f : X → Option Span) → ((x : X) → IsLeast (P x) (f x))
    → (xs : List X) → IsLeast (OneOf P xs) (least_by f xs)
least_by_is P f each [] = none
  where
    none : (s : Span) → OneOf P [] s → ⊥
    none s (ByItem here p) = no_item here
least_by_is {X = X} P f each (x ∷ xs) =
    least_either (P x) (OneOf P xs) (OneOf P (x ∷ xs)) (f x) (least_by f xs) (each x) (least_by_is P f each xs)
    (λ s p. ByItem (first_item x xs) p) (λ s q. later q) (λ s r. split r)
  where
    later : {s : Span} → OneOf P xs s → OneOf P (x ∷ xs) s
    later (ByItem here p) = ByItem (later_item x xs here) p

    split : {s : Span} → OneOf P (x ∷ xs) s → P x s ⊎ OneOf P xs s
    split {s = s} (ByItem here p) =
        let Q : X → Type 0 = λ z. P z s in elim (item_cases x xs here)
        [ inl same ↦ inl (subst Q (sym same) p) | inr more ↦ inr (ByItem more p) ]

-- the same with the items of another list
pub least_map : {X Y : Type 0} (P : Y → Span → Type 0) (g : X → Y) (f : X → Option Span)
    → ((x : X) → IsLeast (P (g x)) (f x)) → (xs : List X) → IsLeast (OneOf P (map g xs)) (least_by f xs)
least_map P g f each [] = none
  where
    none : (s : Span) → OneOf P [] s → ⊥
    none s (ByItem here p) = no_item here
least_map {Y = Y} P g f each (x ∷ xs) =
    least_either (P (g x)) (OneOf P (map g xs)) (OneOf P (map g (x ∷ xs))) (f x) (least_by f xs) (each x)
    (least_map P g f each xs) (λ s p. ByItem (first_item (g x) (map g xs)) p) (λ s q. later q) (λ s r. split r)
  where
    later : {s : Span} → OneOf P (map g xs) s → OneOf P (g x ∷ map g xs) s
    later (ByItem here p) = ByItem (later_item (g x) (map g xs) here) p

    split : {s : Span} → OneOf P (g x ∷ map g xs) s → P (g x) s ⊎ OneOf P (map g xs) s
    split {s = s} (ByItem here p) =
        let Q : Y → Type 0 = λ z. P z s in elim (item_cases (g x) (map g xs) here)
        [ inl same ↦ inl (subst Q (sym same) p) | inr more ↦ inr (ByItem more p) ]

pub least_one : {X : Type 0} (P : X → Span → Type 0) (x : X) (o : Option Span) → IsLeast (P x) o
    → IsLeast (OneOf P (x ∷ [])) o
least_one {X = X} P x o least = least_same (P x) (OneOf P (x ∷ [])) o (λ s p. ByItem (first_item x []) p)
    (λ s q. only q) least
  where
    only : {s : Span} → OneOf P (x ∷ []) s → P x s
    only {s = s} (ByItem here p) =
        let Q : X → Type 0 = λ z. P z s in elim (item_cases x [] here)
        [ inl same ↦ subst Q (sym same) p | inr more ↦ absurd (no_item more) ]

pub least_of_none : {X : Type 0} (P : X → Span → Type 0) → IsLeast (OneOf P []) None
least_of_none P = λ s p. none p
  where
    none : {s : Span} → OneOf P [] s → ⊥
    none (ByItem here p) = no_item here

-- the same where it is known of the list's items alone
pub least_by_in : {X : Type 0} (P : X → Span → Type 0) (f : X → Option Span) (xs : List X)
    → ((x : X) → Contains xs x → IsLeast (P x) (f x)) → IsLeast (OneOf P xs) (least_by f xs)
least_by_in P f [] each = least_of_none P
least_by_in {X = X} P f (x ∷ xs) each =
    least_either (P x) (OneOf P xs) (OneOf P (x ∷ xs)) (f x) (least_by f xs) (each x (first_item x xs))
    (least_by_in P f xs (λ y here. each y (later_item x xs here))) (λ s p. ByItem (first_item x xs) p)
    (λ s q. later q) (λ s r. split r)
  where
    later : {s : Span} → OneOf P xs s → OneOf P (x ∷ xs) s
    later (ByItem here p) = ByItem (later_item x xs here) p

    split : {s : Span} → OneOf P (x ∷ xs) s → P x s ⊎ OneOf P xs s
    split {s = s} (ByItem here p) =
        let Q : X → Type 0 = λ z. P z s in elim (item_cases x xs here)
        [ inl same ↦ inl (subst Q (sym same) p) | inr more ↦ inr (ByItem more p) ]

-- what is below n + 1 is below n, or n
pub below_cases : (m n : ℕ) → m < n + 1 → (m < n) ⊎ (m ≡ n)
below_cases m n few = elim (eqb_tells m n) [
  | inl (_, same) ↦ inr same
  | inr (_, other) ↦ inl (omega (arith, few, other))
]
