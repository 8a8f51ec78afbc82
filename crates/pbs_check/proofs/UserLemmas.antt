-- The table of users says what that of uses does.
use Rattle.std.proofs.Common.{◌≡◌, ◌≤◌, ◌<◌, ◌+◌, ℕ, zero, suc, ◌⊎◌, inl, inr, List, [], ◌∷◌, ◌++◌, length, take}
use Rattle.std.proofs.Common.{get_or, Some, refl, sym, ap, subst, ◌∙◌, arith}
use Rattle.std.specs.Global.{Vec}
use Rattle.std.specs.Prelude.{Contains, slice_get}
use Rattle.std.proofs.lemmas.Option.{slice_get_within}
use Rattle.std.proofs.lemmas.List.Elements.{Contains-append_cases, Contains-append_left, Contains-append_right}
use Rattle.pbs_ast.proofs.Items.{first_item, no_item, item_cases}
use Rattle.pbs_base.specs.declared.refusal.Span.{Span}
use Rattle.pbs_check.specs.declared.graph.Link.{Link}
use Rattle.pbs_check.specs.inner.Links.{link, HasUse, At, HasNext, By, AreUsers, AddsUsers}
use Rattle.pbs_check.proofs.LeastLemmas.{below_cases}
use Rattle.pbs_check.proofs.GraphLemmas.{get_at}

-- ---- lists as far as they were looked at
pub take_next : {X : Type 0} (xs : List X) (i : ℕ) (x : X) → i < length xs → x ≡ get_or xs i x
    → take (i + 1) xs ≡ take i xs ++ x ∷ []
take_next xs i x within is = let next : suc i ≡ i + 1 = omega arith in ap (λ k. take k xs) (sym next)
    ∙ taken xs i x within is
  where
    taken : {X : Type 0} (xs : List X) (i : ℕ) (x : X) → i < length xs → x ≡ get_or xs i x
        → take (suc i) xs ≡ take i xs ++ x ∷ []
    taken [] i x within is = absurd (omega (arith, within))
    taken (y ∷ xs) zero x within is = ap (λ z. z ∷ []) (sym is)
    taken (y ∷ xs) (suc i) x within is = ap (λ zs. y ∷ zs) (taken xs i x (omega (arith, within)) is)

pub take_whole : {X : Type 0} (xs : List X) (i : ℕ) → length xs ≤ i → take i xs ≡ xs
take_whole [] zero all = refl
take_whole [] (suc i) all = refl
take_whole (x ∷ xs) zero all = absurd (omega (arith, all))
take_whole (x ∷ xs) (suc i) all = ap (λ ys. x ∷ ys) (take_whole xs i (omega (arith, all)))

pub taken_cases : {X : Type 0} (xs : List X) (i : ℕ) (x y : X) → i < length xs → x ≡ get_or xs i x
    → Contains (take (i + 1) xs) y → Contains (take i xs) y ⊎ (x ≡ y)
taken_cases xs i x y within is here =
    let P : List _ → Type 0 = λ zs. Contains zs y in
    elim (Contains-append_cases (take i xs) (x ∷ []) y (subst P (take_next xs i x within is) here)) [
      | inl before ↦ inl before
      | inr last ↦ elim (item_cases x [] last) [ inl this ↦ inr this | inr more ↦ absurd (no_item more) ]
    ]

pub taken_more : {X : Type 0} (xs : List X) (i : ℕ) (x y : X) → i < length xs → x ≡ get_or xs i x
    → Contains (take i xs) y → Contains (take (i + 1) xs) y
taken_more xs i x y within is here =
    let P : List _ → Type 0 = λ zs. Contains zs y in subst P (sym (take_next xs i x within is))
    (Contains-append_left (take i xs) (x ∷ []) y here)

pub taken_this : {X : Type 0} (xs : List X) (i : ℕ) (x : X) → i < length xs → x ≡ get_or xs i x
    → Contains (take (i + 1) xs) x
taken_this xs i x within is =
    let P : List _ → Type 0 = λ zs. Contains zs x in subst P (sym (take_next xs i x within is))
    (Contains-append_right (take i xs) (x ∷ []) x (first_item x []))

-- ---- the users of one production more
pub adds_none : (user : ℕ) (users : List (Vec ℕ)) → AddsUsers [] user users users
adds_none user users = record {
  size = refl;
  kept = λ k u here. here;
  added = λ k span here within. absurd (no_item here);
  only = λ k u here. inl here;
}

pub adds_step : (links : List Link) (i : ℕ) (l : Link) (user : ℕ) (first old new : List (Vec ℕ)) → i < length links
    → l ≡ get_or links i l → AddsUsers (take i links) user first old
    → length new ≡ length old → ((k u : ℕ) → HasNext old k u → HasNext new k u)
    → (l.to < length old → HasNext new l.to user)
    → ((k u : ℕ) → HasNext new k u → HasNext old k u ⊎ ((k ≡ l.to) × (u ≡ user)))
    → AddsUsers (take (i + 1) links) user first new
adds_step links i l user first old new within is so_far size kept added only = record {
  size = size ∙ so_far.size;
  kept = λ k u here. kept k u (so_far.kept k u here);
  added = λ k span here below. elim (taken_cases links i l (link k span) within is here) [
    | inl before ↦ kept k user (so_far.added k span before below)
    | inr this ↦
        let e : l.to ≡ k = ap (λ (x : Link). x.to) this in let P : ℕ → Type 0 = λ n. HasNext new n user in
        subst P e (added (omega (arith, e, below, so_far.size)))
  ];
  only = λ k u here. elim (only k u here) [
    | inl before ↦ elim (so_far.only k u before) [
      | inl earlier ↦ inl earlier
      | inr (same, (span, there)) ↦ inr (same, (span, taken_more links i l (link k span) within is there))
    ]
    | inr (this, same) ↦
        let e : l ≡ link k l.span = ap (λ n. link n l.span) (sym this) in let P : Link
        → Type 0 = Contains (take (i + 1) links) in
        inr (same, (l.span, subst P e (taken_this links i l within is)))
  ];
}

-- ---- the users of the productions below a number
pub record UsersTo (uses : List (Vec Link)) (n : ℕ) (users : List (Vec ℕ)) : Type 0 where
  pub size : length users ≡ length uses
  pub sound : (used user : ℕ) → HasNext users used user → (span : Span) × HasUse uses user used span
  pub complete : (used user : ℕ) (span : Span) → HasUse uses user used span → user < n → used < length uses
      → HasNext users used user

pub users_none : (uses : List (Vec Link)) (users : List (Vec ℕ)) → length users ≡ length uses
    → ((k u : ℕ) → HasNext users k u → ⊥) → UsersTo uses 0 users
users_none uses users size none = record {
  size = size;
  sound = λ used user here. absurd (none used user here);
  complete = λ used user span here few within. absurd (omega (arith, few));
}

pub at_number : (uses : List (Vec Link)) (n k : ℕ) (span : Span) (links : Vec Link) → slice_get uses n ≡ Some links
    → HasUse uses n k span → Contains links.items (link k span)
at_number uses n k span links is (At {v = v} at here) =
    let there : Some v ≡ Some links = sym at ∙ is in let e : v ≡ links = cc in let P : Vec Link
    → Type 0 = λ w. Contains w.items (link k span) in subst P e here

pub users_step : (uses : List (Vec Link)) (n : ℕ) (links : Vec Link) (old new : List (Vec ℕ)) → n < length uses
    → links ≡ get_or uses n links → UsersTo uses n old → AddsUsers links.items n old new → UsersTo uses (n + 1) new
users_step uses n links old new within is so_far adds = record {
  size = adds.size ∙ so_far.size;
  sound = λ used user here. elim (adds.only used user here) [
    | inl before ↦ so_far.sound used user before
    | inr (same, (span, there)) ↦
        let P : ℕ → Type 0 = λ u. HasUse uses u used span in (
          span,
          subst P (sym same)
              (At (get_at uses n links within is) there),
        )
  ];
  complete = λ used user span here few below. elim (below_cases user n few) [
    | inl earlier ↦ adds.kept used user (so_far.complete used user span here earlier below)
    | inr same ↦
        let P : ℕ → Type 0 = λ u. HasUse uses u used span in let Q : ℕ → Type 0 = HasNext new used in
        subst Q (sym same) (adds.added used span (at_number uses n used span links (get_at uses n links within is)
        (subst P same here)) (omega (arith, below, so_far.size)))
  ];
}

pub users_all : (uses : List (Vec Link)) (n : ℕ) (users : List (Vec ℕ)) → length uses ≤ n → UsersTo uses n users
    → AreUsers uses users
users_all uses n users all so_far = record {
  sound = so_far.sound;
  complete = λ used user span here within. so_far.complete used user span here (below here) within;
}
  where
    below : {used user : ℕ} {span : Span} → HasUse uses user used span → user < n
    below {user = user} (At {v = v} at here) = let h = slice_get_within uses user v at in omega (arith, h, all)

-- ---- lists that have nothing
pub nothing_more : (lists : List (Vec ℕ)) (new : Vec ℕ) → new.items ≡ [] → ((k u : ℕ) → HasNext lists k u → ⊥)
    → (k u : ℕ) → HasNext (lists ++ new ∷ []) k u → ⊥
nothing_more lists new empty none k u (By {v = v} at here) = elim (appended lists k at) [
  | inl before ↦ none k u (By before here)
  | inr this ↦ let P : Vec ℕ → Type 0 = λ w. Contains w.items u in let Q : List ℕ
      → Type 0 = λ xs. Contains xs u in no_item (subst Q empty (subst P (sym this) here))
]
  where
    appended : (xs : List (Vec ℕ)) (k : ℕ) → slice_get (xs ++ new ∷ []) k ≡ Some v
        → (slice_get xs k ≡ Some v) ⊎ (new ≡ v)
    appended [] zero at = inr cc
    appended [] (suc k) at = cc
    appended (x ∷ xs) zero at = inl at
    appended (x ∷ xs) (suc k) at = appended xs k at

pub no_lists : (k u : ℕ) → HasNext [] k u → ⊥
no_lists k u (By at here) = cc

-- an item that was copied out of a list
pub copied_at : {X : Type 0} (xs : List X) (i : ℕ) (d : X) → i < length xs → get_or xs i d ≡ get_or xs i (get_or xs i d)
copied_at xs i d within = same xs i d (get_or xs i d) within
  where
    same : {X : Type 0} (xs : List X) (i : ℕ) (d e : X) → i < length xs → get_or xs i d ≡ get_or xs i e
    same [] i d e within = absurd (omega (arith, within))
    same (x ∷ xs) zero d e within = refl
    same (x ∷ xs) (suc i) d e within = same xs i d e (omega (arith, within))
