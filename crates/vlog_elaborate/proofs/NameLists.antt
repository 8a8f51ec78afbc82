-- What is in a list that is filtered, mapped or joined, and lists in which no word stands twice.
use Rattle.std.proofs.Common.{◌≡◌, ℕ, zero, suc, ◌+◌, ◌⊎◌, inl, inr, Bool, true, false, cond}
use Rattle.std.proofs.Common.{List, [], ◌∷◌, ◌++◌, length, map, filter, Option, Some, None, refl, sym, ap, ◌∙◌, subst}
use Rattle.std.proofs.Common.{arith}
use Rattle.std.specs.Prelude.{◌||◌, slice_get, unwrap_or}
use Rattle.std.specs.List.{list_any, position_from, filter_map, cons_option, IsDistinct, AllByRecursion, find}
use Rattle.std.specs.Str.{bytes_eq}
use Rattle.std.proofs.lemmas.Option.{same_Some}
use Rattle.std.proofs.lemmas.Slice.Eq.{bytes_eq-Decides}
use Rattle.std.proofs.lemmas.Map.Keys.{any_passes_from_place}
use Rattle.std.proofs.lemmas.List.Folds.{list_any-append}
use Rattle.std.proofs.lemmas.Bool.{both_ways, cases_Bool}
use Rattle.vlog_text.specs.declared.raw.RawName.{RawName}
use Rattle.vlog_text.specs.Words.{has_word, is_named, repeated}

pub same_word : (a b : List ℕ) → bytes_eq a b ≡ true → a ≡ b
same_word a b h = (bytes_eq-Decides a b).0 h

pub word_is : (a b : List ℕ) → a ≡ b → bytes_eq a b ≡ true
word_is a b h = (bytes_eq-Decides a b).1 h

-- ---- empty lists

pub left_empty : {X : Type 0} (xs ys : List X) → xs ++ ys ≡ [] → xs ≡ []
left_empty [] ys h = refl
left_empty (x ∷ xs) ys h = cc

pub right_empty : {X : Type 0} (xs ys : List X) → xs ++ ys ≡ [] → ys ≡ []
right_empty [] ys h = h
right_empty (x ∷ xs) ys h = cc

-- ---- what is in a list

-- the list has it somewhere
pub record Has {X : Type 0} (xs : List X) (x : X) : Type 0 where
  pub place : ℕ
  pub is : slice_get xs place ≡ Some x

pub has_first : {X : Type 0} (x : X) (xs : List X) → Has (x ∷ xs) x
has_first x xs = record { place = zero; is = refl }

pub has_later : {X : Type 0} (y x : X) (xs : List X) → Has xs x → Has (y ∷ xs) x
has_later y x xs h = record { place = suc h.place; is = h.is }

pub has_cases : {X : Type 0} (y x : X) (xs : List X) → Has (y ∷ xs) x → (y ≡ x) ⊎ Has xs x
has_cases y x xs h = go h.place h.is
  where
    go : (i : ℕ) → slice_get (y ∷ xs) i ≡ Some x → (y ≡ x) ⊎ Has xs x
    go zero e = inl (same_Some y x e)
    go (suc i) e = inr (record { place = i; is = e })

pub has_any : {X : Type 0} (p : X → Bool) (xs : List X) (x : X) → Has xs x → p x ≡ true → list_any p xs ≡ true
has_any p xs x h t = any_passes_from_place p xs h.place x h.is t

pub any_has : {X : Type 0} (p : X → Bool) (xs : List X) → list_any p xs ≡ true → (x : X) × Has xs x × (p x ≡ true)
any_has {X = X} p [] h = cc
any_has {X = X} p (y ∷ ys) h = go (p y) refl h (any_has p ys)
  where
    go : (b : Bool) → p y ≡ b → (b || list_any p ys) ≡ true
        → (list_any p ys ≡ true → (x : X) × Has ys x × (p x ≡ true)) → (x : X) × Has (y ∷ ys) x × (p x ≡ true)
    go true e h more = (y, has_first y ys, e)
    go false e h more = let r = more h in (r.0, has_later y r.0 ys r.1, r.2)

pub has_filter : {X : Type 0} (p : X → Bool) (xs : List X) (x : X) → Has xs x → p x ≡ true → Has (filter p xs) x
has_filter p [] x h t = let e = h.is in cc
has_filter p (y ∷ ys) x h t = elim (has_cases y x ys h) [
  | inl e ↦
      let here : p y ≡ true = subst (λ z. p z ≡ true) (sym e) t in
      subst (λ b. Has (cond b (y ∷ filter p ys) (filter p ys)) x) (sym here)
      (subst (λ z. Has (y ∷ filter p ys) z) e (has_first y (filter p ys)))
  | inr later ↦ kept (p y) (has_filter p ys x later t)
]
  where
    kept : (b : Bool) → Has (filter p ys) x → Has (cond b (y ∷ filter p ys) (filter p ys)) x
    kept true h = has_later y x (filter p ys) h
    kept false h = h

pub filter_has : {X : Type 0} (p : X → Bool) (xs : List X) (x : X) → Has (filter p xs) x → Has xs x × (p x ≡ true)
filter_has p [] x h = let e = h.is in cc
filter_has p (y ∷ ys) x h = go (p y) refl h (filter_has p ys x)
  where
    later : Has ys x × (p x ≡ true) → Has (y ∷ ys) x × (p x ≡ true)
    later r = (has_later y x ys r.0, r.1)

    go : (b : Bool) → p y ≡ b → Has (cond b (y ∷ filter p ys) (filter p ys)) x
        → (Has (filter p ys) x → Has ys x × (p x ≡ true)) → Has (y ∷ ys) x × (p x ≡ true)
    go true e h more = elim (has_cases y x (filter p ys) h) [
      | inl s ↦ (subst (λ z. Has (y ∷ ys) z) s (has_first y ys), subst (λ z. p z ≡ true) s e)
      | inr r ↦ later (more r)
    ]
    go false e h more = later (more h)

pub filter_none : {X : Type 0} (p : X → Bool) (xs : List X) → filter p xs ≡ [] → (x : X) → Has xs x → p x ≡ false
filter_none p xs h x has = elim (cases_Bool (p x)) [
  | inl t ↦
      let clash : Has [] x = subst (λ ys. Has ys x) h (has_filter p xs x has t) in
      let e = clash.is in cc
  | inr f ↦ f
]

pub has_map : {X Y : Type 0} (f : X → Y) (xs : List X) (x : X) → Has xs x → Has (map f xs) (f x)
has_map f [] x h = let e = h.is in cc
has_map f (y ∷ ys) x h = elim (has_cases y x ys h) [
  | inl e ↦ subst (λ z. Has (f y ∷ map f ys) (f z)) e (has_first (f y) (map f ys))
  | inr later ↦ has_later (f y) (f x) (map f ys) (has_map f ys x later)
]

pub map_at : {X Y : Type 0} (f : X → Y) (xs : List X) (i : ℕ) (y : Y) → slice_get (map f xs) i ≡ Some y
    → (x : X) × (slice_get xs i ≡ Some x) × (y ≡ f x)
map_at f [] i y e = cc
map_at f (x ∷ xs) zero y e = (x, refl, sym (same_Some (f x) y e))
map_at f (x ∷ xs) (suc i) y e = map_at f xs i y e

pub has_filter_map : {X Y : Type 0} (f : X → Option Y) (xs : List X) (x : X) (y : Y) → Has xs x → f x ≡ Some y
    → Has (filter_map f xs) y
has_filter_map {Y = Y} f [] x y h t = let e = h.is in cc
has_filter_map {Y = Y} f (z ∷ zs) x y h t = elim (has_cases z x zs h) [
  | inl e ↦ subst (λ o. Has (cons_option o (filter_map f zs)) y) (sym (ap f e ∙ t)) (has_first y (filter_map f zs))
  | inr later ↦ kept (f z) (has_filter_map f zs x y later t)
]
  where
    kept : (o : Option Y) → Has (filter_map f zs) y → Has (cons_option o (filter_map f zs)) y
    kept None h = h
    kept (Some w) h = has_later w y (filter_map f zs) h

pub filter_map_has : {X Y : Type 0} (f : X → Option Y) (xs : List X) (y : Y) → Has (filter_map f xs) y
    → (x : X) × Has xs x × (f x ≡ Some y)
filter_map_has {X = X} {Y = Y} f [] y h = let e = h.is in cc
filter_map_has {X = X} {Y = Y} f (z ∷ zs) y h = go (f z) refl h (filter_map_has f zs y)
  where
    later : (x : X) × Has zs x × (f x ≡ Some y) → (x : X) × Has (z ∷ zs) x × (f x ≡ Some y)
    later r = (r.0, has_later z r.0 zs r.1, r.2)

    go : (o : Option Y) → f z ≡ o → Has (cons_option o (filter_map f zs)) y
        → (Has (filter_map f zs) y → (x : X) × Has zs x × (f x ≡ Some y)) → (x : X) × Has (z ∷ zs) x × (f x ≡ Some y)
    go None e h more = later (more h)
    go (Some w) e h more = elim (has_cases w y (filter_map f zs) h) [
      | inl s ↦ (z, has_first z zs, e ∙ ap (λ v. Some v) s)
      | inr r ↦ later (more r)
    ]

-- nothing is left out where there is always something
pub filter_map_long : {X Y : Type 0} (f : X → Option Y) (xs : List X)
    → ((x : X) → Has xs x → (y : Y) × (f x ≡ Some y)) → length (filter_map f xs) ≡ length xs
filter_map_long f [] h = refl
filter_map_long f (x ∷ xs) h =
    let here = h x (has_first x xs) in
    ap (λ o. length (cons_option o (filter_map f xs))) here.1
    ∙ ap suc (filter_map_long f xs (λ y has. h y (has_later x y xs has)))

pub has_right : {X : Type 0} (xs ys : List X) (x : X) → Has ys x → Has (xs ++ ys) x
has_right [] ys x h = h
has_right (y ∷ xs) ys x h = has_later y x (xs ++ ys) (has_right xs ys x h)

pub find_has : {X : Type 0} (p : X → Bool) (xs : List X) (x : X) → find p xs ≡ Some x → Has xs x
find_has p [] x h = cc
find_has p (y ∷ ys) x h = go (p y) h (find_has p ys x)
  where
    go : (b : Bool) → cond b (Some y) (find p ys) ≡ Some x → (find p ys ≡ Some x → Has ys x) → Has (y ∷ ys) x
    go true h more = subst (λ z. Has (y ∷ ys) z) (same_Some y x h) (has_first y ys)
    go false h more = has_later y x ys (more h)

-- ---- the first place

-- where the first that passes stands
pub record Stands {X : Type 0} (p : X → Bool) (xs : List X) (place : ℕ) : Type 0 where
  pub item : X
  pub is : slice_get xs place ≡ Some item
  pub passes : p item ≡ true

place_from : {X : Type 0} (p : X → Bool) (k : ℕ) (xs : List X) → list_any p xs ≡ true
    → (i : ℕ) × (position_from p k xs ≡ Some (k + i)) × Stands p xs i
place_from p k [] h = cc
place_from p k (x ∷ xs) h = go (p x) refl h (place_from p (k + 1) xs)
  where
    go : (b : Bool) → p x ≡ b → (b || list_any p xs) ≡ true
        → (list_any p xs ≡ true → (i : ℕ) × (position_from p (k + 1) xs ≡ Some (k + 1 + i)) × Stands p xs i)
        → (i : ℕ) × (position_from p k (x ∷ xs) ≡ Some (k + i)) × Stands p (x ∷ xs) i
    go true e h more = (
      zero,
      ap (λ b. cond b (Some k) (position_from p (k + 1) xs)) e ∙ ap (λ n. Some n) (omega arith),
      record { item = x; is = refl; passes = e },
    )
    go false e h more =
        let r = more h in (
          suc r.0,
          ap (λ b. cond b (Some k) (position_from p (k + 1) xs)) e ∙ r.1 ∙ ap (λ n. Some n) (omega arith),
          record { item = r.2.item; is = r.2.is; passes = r.2.passes },
        )

pub first_place : {X : Type 0} (p : X → Bool) (xs : List X) → list_any p xs ≡ true
    → Stands p xs (unwrap_or (position_from p 0 xs) 0)
first_place p xs h =
    let r = place_from p 0 xs h in
    let e : r.0 ≡ unwrap_or (position_from p 0 xs) 0 = sym (ap (λ o. unwrap_or o 0) r.1 ∙ omega arith) in
    subst (λ i. Stands p xs i) e r.2

-- ---- names

pub named_has : (names : List RawName) (w : List ℕ) → is_named names w ≡ true
    → (n : RawName) × Has names n × (n.word ≡ w)
named_has names w h =
    let r = any_has (has_word w) names h in
    (r.0, r.1, sym (same_word w r.0.word r.2))

pub has_named : (names : List RawName) (w : List ℕ) (n : RawName) → Has names n → n.word ≡ w → is_named names w ≡ true
has_named names w n h e = has_any (has_word w) names n h (word_is w n.word (sym e))

-- ---- no word twice

abbrev pub Differ : {X : Type 0} → (X → List ℕ) → List X → Type 0
Differ f [] = Unit {0}
Differ f (x ∷ xs) = (list_any (λ y. bytes_eq (f x) (f y)) xs ≡ false) × Differ f xs

not_any : {X : Type 0} (p : X → Bool) (xs : List X) → ((x : X) → Has xs x → p x ≡ true → ⊥) → list_any p xs ≡ false
not_any p xs h = elim (cases_Bool (list_any p xs)) [
  | inl t ↦ let r = any_has p xs t in absurd (h r.0 r.1 r.2)
  | inr f ↦ f
]

none_has : {X : Type 0} (p : X → Bool) (xs : List X) → list_any p xs ≡ false → (x : X) → Has xs x → p x ≡ true → ⊥
none_has p xs h x has t = both_ways (list_any p xs) h (has_any p xs x has t)

pub differ_filter : {X : Type 0} (f : X → List ℕ) (p : X → Bool) (xs : List X) → Differ f xs → Differ f (filter p xs)
differ_filter f p [] d = tt
differ_filter f p (x ∷ xs) d = go (p x) (differ_filter f p xs d.1)
  where
    go : (b : Bool) → Differ f (filter p xs) → Differ f (cond b (x ∷ filter p xs) (filter p xs))
    go true more = (
      not_any (λ y. bytes_eq (f x) (f y)) (filter p xs)
          (λ y has t. none_has (λ y. bytes_eq (f x) (f y)) xs d.0 y (filter_has p xs y has).0 t),
      more,
    )
    go false more = more

pub differ_map : {X Y : Type 0} (g : Y → List ℕ) (f : X → Y) (xs : List X) → Differ g (map f xs)
    → Differ (λ x. g (f x)) xs
differ_map g f [] d = tt
differ_map g f (x ∷ xs) d = (
  not_any (λ y. bytes_eq (g (f x)) (g (f y))) xs
      (λ y has t. none_has (λ z. bytes_eq (g (f x)) (g z)) (map f xs) d.0 (f y) (has_map f xs y has) t),
  differ_map g f xs d.1,
)

pub differ_distinct : {X : Type 0} (f : X → List ℕ) (xs : List X) → Differ f xs → IsDistinct bytes_eq (map f xs)
unfolding IsDistinct
differ_distinct {X = X} f [] d = tt
differ_distinct {X = X} f (x ∷ xs) d = (all xs d.0, differ_distinct f xs d.1)
  where
    all : (ys : List X) → list_any (λ y. bytes_eq (f x) (f y)) ys ≡ false
        → AllByRecursion (λ y. bytes_eq (f x) y ≡ false) (map f ys)
    all [] h = tt
    all (y ∷ ys) h = (neither (bytes_eq (f x) (f y)) _ h, all ys (second (bytes_eq (f x) (f y)) _ h))
      where
        neither : (a b : Bool) → (a || b) ≡ false → a ≡ false
        neither true b h = h
        neither false b h = refl

        second : (a b : Bool) → (a || b) ≡ false → b ≡ false
        second true b h = cc
        second false b h = h

pub differ_apart : {X : Type 0} (f : X → List ℕ) (xs : List X) → Differ f xs → (i j : ℕ) (x y : X)
    → slice_get xs i ≡ Some x → slice_get xs j ≡ Some y → f x ≡ f y → i ≡ j
differ_apart f [] d i j x y p q e = cc
differ_apart f (z ∷ zs) d zero zero x y p q e = refl
differ_apart f (z ∷ zs) d zero (suc j) x y p q e =
    let s : z ≡ x = same_Some z x p in
    absurd (none_has (λ y. bytes_eq (f z) (f y)) zs d.0 y (record {
      place = j;
      is = q;
    }) (word_is (f z) (f y) (ap f s ∙ e)))
differ_apart f (z ∷ zs) d (suc i) zero x y p q e =
    let s : z ≡ y = same_Some z y q in
    absurd (none_has (λ y. bytes_eq (f z) (f y)) zs d.0 x (record {
      place = i;
      is = p;
    }) (word_is (f z) (f x) (ap f s ∙ sym e)))
differ_apart f (z ∷ zs) d (suc i) (suc j) x y p q e = ap suc (differ_apart f zs d.1 i j x y p q e)

-- a list none of whose names is repeated
fresh : (before names : List RawName) → repeated before names ≡ [] → (n : RawName) → Has names n
    → is_named before n.word ≡ false
fresh before [] h n has = let e = has.is in cc
fresh before (x ∷ xs) h n has = elim (has_cases x n xs has) [
  | inl s ↦ subst (λ (m : RawName). is_named before m.word ≡ false) s
      (first (is_named before x.word) (left_empty _ _ h))
  | inr later ↦
      front (is_named before n.word) _
      (sym (list_any-append (has_word n.word) before (x ∷ []))
      ∙ fresh (before ++ x ∷ []) xs (right_empty (cond (is_named before x.word) (x ∷ []) []) _ h) n later)
]
  where
    first : (b : Bool) → cond b (x ∷ []) [] ≡ [] → b ≡ false
    first true e = cc
    first false e = refl

    front : (a b : Bool) → (a || b) ≡ false → a ≡ false
    front true b h = h
    front false b h = refl

pub once_differ : (before names : List RawName) → repeated before names ≡ [] → Differ (λ (n : RawName). n.word) names
once_differ before [] h = tt
once_differ before (x ∷ xs) h =
    let rest = right_empty (cond (is_named before x.word) (x ∷ []) []) (repeated (before ++ x ∷ []) xs) h in (
      not_any (λ (y : RawName). bytes_eq x.word y.word) xs
          (λ y has t. both_ways (is_named (before ++ x ∷ []) y.word) (fresh (before ++ x ∷ []) xs rest y has)
          (has_named (before ++ x ∷ []) y.word x (has_right before (x ∷ []) x (has_first x []))
          (same_word x.word y.word t))),
      once_differ (before ++ x ∷ []) xs rest,
    )
