-- What is added to a list of variables, and where it goes.
use Rattle.std.proofs.Common.{◌≡◌, ◌⊎◌, inl, inr, ℕ, zero, suc, ◌<◌, ◌≤◌, Bool, true, List, [], ◌∷◌, length}
use Rattle.std.proofs.Common.{Some, refl, sym, ap, subst, ◌∙◌, arith}
use Rattle.std.specs.Prelude.{slice_get, insert, IsTrue, ◌↔◌, false}
use Rattle.std.proofs.lemmas.Bool.{cases_lt, true≢false}
use Rattle.std.proofs.lemmas.Option.{same_Some, slice_get_within}
use Rattle.net_eval.proofs.Agreeing.{some_at}
use Rattle.net_core.specs.declared.gate.Wire.{Wire}
use Rattle.net_core.specs.declared.gate.Wire.TheVariants as wire
use Rattle.net_equiv.specs.declared.answer.VarName.{VarName}
use Rattle.net_equiv.specs.declared.answer.VarName.TheVariants.{Input, A, B}
use Rattle.net_equiv.specs.Cones.{ComesBefore, Has, IsLeafOf, IsRising}
use Rattle.net_equiv.specs.inner.Walking.{Adds, IsPlace, Marks}

-- ---- several steps

pub adds_none : (M : VarName → Type 0) (vars : List VarName) → Adds M vars vars
adds_none M vars = record {
  rising = λ r. r;
  kept = λ x h. h;
  each = λ t x e. inl (record { place = t; at = e });
}

pub adds_then : (M : VarName → Type 0) (a b c : List VarName) → Adds M a b → Adds M b c → Adds M a c
adds_then M a b c p q = record {
  rising = λ r. q.rising (p.rising r);
  kept = λ x h. q.kept x (p.kept x h);
  each = λ t x e. elim (q.each t x e) [ inl h ↦ p.each h.place x h.at | inr m ↦ inr m ];
}

pub adds_wider : (M N : VarName → Type 0) (a b : List VarName) → ((x : VarName) → M x → N x) → Adds M a b
    → Adds N a b
adds_wider M N a b more p = record {
  rising = p.rising;
  kept = p.kept;
  each = λ t x e. elim (p.each t x e) [ inl h ↦ inl h | inr m ↦ inr (more x m) ];
}

pub marks_none : (M : Wire → Type 0) (marks : List Bool) → Marks M marks marks
marks_none M marks = record { kept = λ k h. h; each = λ k h. inl h }

pub marks_then : (M : Wire → Type 0) (a b c : List Bool) → Marks M a b → Marks M b c → Marks M a c
marks_then M a b c p q = record {
  kept = λ k h. q.kept k (p.kept k h);
  each = λ k h. elim (q.each k h) [ inl b ↦ p.each k b | inr m ↦ inr m ];
}

pub marks_wider : (M N : Wire → Type 0) (a b : List Bool) → ((w : Wire) → M w → N w) → Marks M a b → Marks N a b
marks_wider M N a b more p = record {
  kept = p.kept;
  each = λ k h. elim (p.each k h) [ inl b ↦ inl b | inr m ↦ inr (more (wire.Gate k) m) ];
}

pub leaf_wider : (name_of : ℕ → VarName) (M N : Wire → Type 0) → ((w : Wire) → M w → N w) → (x : VarName)
    → IsLeafOf name_of M x → IsLeafOf name_of N x
leaf_wider name_of M N more x leaf =
    record { leaf = leaf.leaf; meant = more leaf.leaf leaf.meant; named = leaf.named }

-- ---- the order

pub before_trans : (x y z : VarName) → ComesBefore x y → ComesBefore y z → ComesBefore x z
before_trans (Input l) (Input m) (Input n) p q = omega arith
before_trans (Input l) (A m) (Input n) p q = absurd q
before_trans (Input l) (B m) (Input n) p q = absurd q
before_trans (Input l) y (A n) p q = tt
before_trans (Input l) y (B n) p q = tt
before_trans (A l) (Input m) z p q = absurd p
before_trans (A l) (A m) (Input n) p q = absurd q
before_trans (A l) (A m) (A n) p q = omega arith
before_trans (A l) (A m) (B n) p q = tt
before_trans (A l) (B m) (Input n) p q = absurd q
before_trans (A l) (B m) (A n) p q = absurd q
before_trans (A l) (B m) (B n) p q = tt
before_trans (B l) (Input m) z p q = absurd p
before_trans (B l) (A m) z p q = absurd p
before_trans (B l) (B m) (Input n) p q = absurd q
before_trans (B l) (B m) (A n) p q = absurd q
before_trans (B l) (B m) (B n) p q = omega arith

number_after : (m n : ℕ) → (m < n → ⊥) → (m ≡ n → ⊥) → n < m
number_after m n p q = omega arith

before_or_after : (x y : VarName) → (ComesBefore x y → ⊥) → (x ≡ y → ⊥) → ComesBefore y x
before_or_after (Input m) (Input n) p q = number_after m n p (λ e. q (ap Input e))
before_or_after (Input m) (A n) p q = absurd (p tt)
before_or_after (Input m) (B n) p q = absurd (p tt)
before_or_after (A m) (Input n) p q = tt
before_or_after (A m) (A n) p q = number_after m n p (λ e. q (ap A e))
before_or_after (A m) (B n) p q = absurd (p tt)
before_or_after (B m) (Input n) p q = tt
before_or_after (B m) (A n) p q = tt
before_or_after (B m) (B n) p q = number_after m n p (λ e. q (ap B e))

-- ---- a name more

data Came (xs : List VarName) (i : ℕ) (y : VarName) (k : ℕ) (x : VarName) : Type 0 where
  below : k < i → slice_get xs k ≡ Some x → Came xs i y k x
  here : k ≡ i → y ≡ x → Came xs i y k x
  above : (j : ℕ) → k ≡ suc j → i ≤ j → slice_get xs j ≡ Some x → Came xs i y k x

came_later : (z : VarName) (xs : List VarName) (i : ℕ) (y : VarName) (k : ℕ) (x : VarName) → Came xs i y k x
    → Came (z ∷ xs) (suc i) y (suc k) x
came_later z xs i y k x (below l e) = below (omega arith) e
came_later z xs i y k x (here s e) = here (ap suc s) e
came_later z xs i y k x (above j s l e) = above (suc j) (ap suc s) (omega arith) e

inserted : (xs : List VarName) (i : ℕ) (y : VarName) (k : ℕ) (x : VarName) → i ≤ length xs
    → slice_get (insert xs i y) k ≡ Some x → Came xs i y k x
inserted [] zero y zero x h e = here refl (same_Some y x e)
inserted [] zero y (suc k) x h e = above k refl (omega arith) e
inserted [] (suc i) y k x h e = absurd (omega arith)
inserted (z ∷ xs) zero y zero x h e = here refl (same_Some y x e)
inserted (z ∷ xs) zero y (suc k) x h e = above k refl (omega arith) e
inserted (z ∷ xs) (suc i) y zero x h e = below (omega arith) e
inserted (z ∷ xs) (suc i) y (suc k) x h e = came_later z xs i y k x (inserted xs i y k x (omega arith) e)

has_later : (z : VarName) (xs : List VarName) (x : VarName) → Has xs x → Has (z ∷ xs) x
has_later z xs x h = record { place = suc h.place; at = h.at }

insert_kept : (xs : List VarName) (i : ℕ) (y : VarName) (k : ℕ) (x : VarName) → i ≤ length xs
    → slice_get xs k ≡ Some x → Has (insert xs i y) x
insert_kept [] i y k x h e = absurd (cc)
insert_kept (z ∷ xs) zero y k x h e = record { place = suc k; at = e }
insert_kept (z ∷ xs) (suc i) y zero x h e = record { place = zero; at = e }
insert_kept (z ∷ xs) (suc i) y (suc k) x h e =
    has_later z (insert xs i y) x (insert_kept xs i y k x (omega arith) e)

pub insert_has : (xs : List VarName) (i : ℕ) (y : VarName) → i ≤ length xs → Has (insert xs i y) y
insert_has [] zero y h = record { place = zero; at = refl }
insert_has [] (suc i) y h = absurd (omega arith)
insert_has (z ∷ xs) zero y h = record { place = zero; at = refl }
insert_has (z ∷ xs) (suc i) y h = has_later z (insert xs i y) y (insert_has xs i y (omega arith))

some_below : (xs : List VarName) (i j : ℕ) (x : VarName) → i < j → slice_get xs j ≡ Some x
    → (w : VarName) × (slice_get xs i ≡ Some w)
some_below xs i j x l e = let within = slice_get_within xs j x e in some_at xs i (omega arith)

module _ (xs : List VarName) (name : VarName) (i : ℕ) (at_place : IsPlace xs name i)
    (new : slice_get xs i ≡ Some name → ⊥) where
  -- the name comes before each item from its place on
  before_rest : IsRising xs → (j : ℕ) (x : VarName) → i ≤ j → slice_get xs j ≡ Some x → ComesBefore name x
  before_rest r j x l e = by (cases_lt i j)
    where
      by_first : (w : VarName) → slice_get xs i ≡ Some w → ComesBefore name w
      by_first w h =
          before_or_after w name (at_place.here w h) (λ s. new (h ∙ ap (λ (u : VarName). Some u) s))

      by : (i < j) ⊎ (j ≤ i) → ComesBefore name x
      by (inl lt) =
          let first = some_below xs i j x lt e in
          before_trans name first.0 x (by_first first.0 first.1) (r.order i j first.0 x lt first.1 e)
      by (inr ge) =
          let s : j ≡ i = omega arith in
          by_first x (ap (λ k. slice_get xs k) (sym s) ∙ e)

  insert_order : IsRising xs → (s t : ℕ) (x y : VarName) → s < t → Came xs i name s x → Came xs i name t y
      → ComesBefore x y
  insert_order r s t x y l (below a e) (below b f) = r.order s t x y l e f
  insert_order r s t x y l (below a e) (here b f) = subst (λ (u : VarName). ComesBefore x u) f (at_place.before s x a e)
  insert_order r s t x y l (below a e) (above j b c f) = r.order s j x y (omega arith) e f
  insert_order r s t x y l (here a e) (below b f) = absurd (omega arith)
  insert_order r s t x y l (here a e) (here b f) = absurd (omega arith)
  insert_order r s t x y l (here a e) (above j b c f) =
      subst (λ (u : VarName). ComesBefore u y) e (before_rest r j y c f)
  insert_order r s t x y l (above j a b e) (below c f) = absurd (omega arith)
  insert_order r s t x y l (above j a b e) (here c f) = absurd (omega arith)
  insert_order r s t x y l (above j a b e) (above k c d f) = r.order j k x y (omega arith) e f

  was_or_new : (t : ℕ) (x : VarName) → Came xs i name t x → Has xs x ⊎ (x ≡ name)
  was_or_new t x (below a e) = inl (record { place = t; at = e })
  was_or_new t x (here a e) = inr (sym e)
  was_or_new t x (above j a b e) = inl (record { place = j; at = e })

  pub adds_insert : Adds (λ x. x ≡ name) xs (insert xs i name)
  adds_insert = record {
    rising = λ r. record {
      order = λ s t x y l e f.
          insert_order r s t x y l (inserted xs i name s x at_place.within e) (inserted xs i name t y at_place.within f);
    };
    kept = λ x h. insert_kept xs i name h.place x at_place.within h.at;
    each = λ t x e. was_or_new t x (inserted xs i name t x at_place.within e);
  }

pub not_at : (b : Bool) (xs ys : List VarName) (n : ℕ) (name : VarName) → IsTrue b ↔ (slice_get xs n ≡ Some name)
    → b ≡ false → xs ≡ ys → slice_get ys n ≡ Some name → ⊥
not_at b xs ys n name told fails same at =
    let yes : b ≡ true = told.1 (ap (λ (l : List VarName). slice_get l n) same ∙ at) in
    true≢false (sym yes ∙ fails)
