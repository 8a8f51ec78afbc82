-- Where a tree without scopes has covered a stretch, one of its last places stood before the stretch's last vector.
use Rattle.std.proofs.Common.{◌≡◌, ℕ, suc, ◌+◌, ◌-◌, ◌<◌, ◌≤◌, Bool, true, ◌&&◌, ◌||◌, ◌↔◌, nat_eq, List, slice_index}
use Rattle.std.proofs.Common.{inl, inr, refl, sym, ◌∙◌, ap, arith}
use Rattle.std.proofs.lemmas.Bool.{and_parts, and_from, false≢true, eqb-true, eq-eqb, cases_lt, or_left, or_right}
use Rattle.bool_terms.specs.Terms.{holds}
use Rattle.pbs_ast.specs.Trees.{Tree, Empty, Terminal, Action, Seq, Choice, Star, Hold, Scope, nullable, has_place}
use Rattle.pbs_ast.specs.Trees.{has_no_scope, is_last, fits}
use Rattle.pbs_derive.proofs.Shapes.{PlacesOnce}
use Rattle.pbs_derive.specs.Derivations.{covers, stands, all_hold}
use Rattle.pbs_derive.proofs.Positions.{split_to, split_from, or_elim, all_hold_to, all_hold_from}
use Rattle.pbs_derive.proofs.Repeats.{repeats_last, repeats_from, last_of}
use Rattle.pbs_derive.proofs.EmptyStretch.{nullable_to_covers, covers_to_nullable}

-- a last place of e stands at k, and its effective term within e is true in vector k
abbrev pub LastStands : Tree → List ℕ → ℕ → ℕ → Type 0
LastStands e v i k = (p : ℕ) × (is_last p e ≡ true) × (stands e v i k p ≡ true) × (fits p e (slice_index v k) ≡ true)

pub covers_to_last : (e : Tree) (v : List ℕ) (i k : ℕ) → has_no_scope e ≡ true → i ≤ k → covers e v i (suc k) ≡ true
    → LastStands e v i k
covers_to_last (Empty spot) v i k g le h = let q : i ≡ suc k = eqb-true i (suc k) h in absurd (omega arith)
covers_to_last (Action spot a) v i k g le h = let q : i ≡ suc k = eqb-true i (suc k) h in absurd (omega arith)
covers_to_last (Terminal spot p t) v i k g le h =
    let a = and_parts (nat_eq (suc k) (i + 1)) (holds t (slice_index v i)) h in
    let q : suc k ≡ i + 1 = eqb-true (suc k) (i + 1) a.0 in
    let same : i ≡ k = omega arith in (
      p,
      eq-eqb p p refl,
      and_from _ _ (eq-eqb p p refl) (eq-eqb k i (sym same)),
      and_from _ _ (eq-eqb p p refl) (ap (λ m. holds t (slice_index v m)) (sym same) ∙ a.1),
    )
covers_to_last (Seq spot e f) v i k g le h =
    let s = and_parts (has_no_scope e) (has_no_scope f) g in
    let w = split_to i (suc k) (covers e v i) (λ m. covers f v m (suc k)) h in
    let high : w.0 ≤ suc k = w.2 in
    elim (cases_lt w.0 (suc k)) [
      | inl before ↦
          let r = covers_to_last f v w.0 k s.1 (omega arith) w.4 in (
            r.0,
            or_left _ _ r.1,
            or_right _ _ (split_from i k (covers e v i) (λ m. stands f v m k r.0) w.0 w.1 (omega arith) w.3 r.2),
            or_right _ _ r.3,
          )
      | inr now ↦
          let same : w.0 ≡ suc k = omega arith in
          let r = covers_to_last e v i k s.0 le (ap (covers e v i) (sym same) ∙ w.3) in (
            r.0,
            or_right _ _
                (and_from _ _ r.1 (covers_to_nullable f v (suc k) (ap (λ m. covers f v m (suc k)) (sym same) ∙ w.4))),
            or_left _ _ r.2,
            or_left _ _ r.3,
          )
    ]
covers_to_last (Choice spot e f) v i k g le h =
    let s = and_parts (has_no_scope e) (has_no_scope f) g in
    or_elim (covers e v i (suc k)) (covers f v i (suc k)) h
    (λ l. let r = covers_to_last e v i k s.0 le l in (
      r.0,
      or_left _ _ r.1,
      or_left _ _ r.2,
      or_left _ _ r.3,
    ))
    (λ l. let r = covers_to_last f v i k s.1 le l in (
      r.0,
      or_right _ _ r.1,
      or_right _ _ r.2,
      or_right _ _ r.3,
    ))
covers_to_last (Star spot e) v i k g le h =
    elim (last_of (covers e v) (suc k - i) i (suc k) h) [
      | inl same ↦ let q : i ≡ suc k = same in absurd (omega arith)
      | inr l ↦
          let lt : l.0 < suc k = l.2 in
          let r = covers_to_last e v l.0 k g (omega arith) l.4 in (
            r.0,
            r.1,
            split_from i k (covers (Star spot e) v i) (λ m. stands e v m k r.0) l.0 l.1 (omega arith)
                (repeats_from (covers e v) i l.0 l.3) r.2,
            r.3,
          )
    ]
covers_to_last (Hold spot t e) v i k g le h =
    let a = and_parts (covers e v i (suc k)) (all_hold t v i (suc k)) h in
    let r = covers_to_last e v i k g le a.0 in (
      r.0,
      r.1,
      and_from _ _ r.2 (all_hold_from t v i k (λ m low high. all_hold_to t v i (suc k) a.1 m low (omega arith))),
      and_from _ _ r.3 (all_hold_to t v i (suc k) a.1 k le (omega arith)),
    )
covers_to_last (Scope spot s e x h) v i k g le c = absurd (false≢true g)

last_has : (e : Tree) (p : ℕ) → is_last p e ≡ true → has_place p e ≡ true
last_has (Empty spot) p h = h
last_has (Action spot a) p h = h
last_has (Terminal spot q t) p h = h
last_has (Seq spot e f) p h =
    or_elim (is_last p f) (is_last p e && nullable f) h
    (λ l. or_right _ _ (last_has f p l))
    (λ r. or_left _ _ (last_has e p (and_parts (is_last p e) (nullable f) r).0))
last_has (Choice spot e f) p h = or_elim (is_last p e) (is_last p f) h (λ l. or_left _ _ (last_has e p l))
    (λ r. or_right _ _ (last_has f p r))
last_has (Star spot e) p h = last_has e p h
last_has (Hold spot t e) p h = last_has e p h
last_has (Scope spot s e x a) p h =
    let here = has_place p e || has_place p x in
    or_elim (is_last p e || is_last p a) (is_last p x && nullable a) h
    (λ l. or_elim (is_last p e) (is_last p a) l
    (λ b. or_left here (has_place p a) (or_left (has_place p e) (has_place p x) (last_has e p b)))
    (λ b. or_right here (has_place p a) (last_has a p b)))
    (λ r. or_left here (has_place p a)
    (or_right (has_place p e) (has_place p x) (last_has x p (and_parts (is_last p x) (nullable a) r).0)))

stands_has : (e : Tree) (v : List ℕ) (i k p : ℕ) → has_no_scope e ≡ true → stands e v i k p ≡ true
    → has_place p e ≡ true
stands_has (Empty spot) v i k p g h = h
stands_has (Action spot a) v i k p g h = h
stands_has (Terminal spot q t) v i k p g h = (and_parts (nat_eq p q) (nat_eq k i) h).0
stands_has (Seq spot e f) v i k p g h =
    let s = and_parts (has_no_scope e) (has_no_scope f) g in
    or_elim _ _ h (λ l. or_left _ _ (stands_has e v i k p s.0 l))
    (λ r. let w = split_to i k (covers e v i) (λ m. stands f v m k p) r in
    or_right _ _
    (stands_has f v w.0 k p s.1 w.4))
stands_has (Choice spot e f) v i k p g h =
    let s = and_parts (has_no_scope e) (has_no_scope f) g in
    or_elim _ _ h (λ l. or_left _ _ (stands_has e v i k p s.0 l))
    (λ r. or_right _ _ (stands_has f v i k p s.1 r))
stands_has (Star spot e) v i k p g h =
    let w = split_to i k (covers (Star spot e) v i) (λ m. stands e v m k p) h in
    stands_has e v w.0 k p g w.4
stands_has (Hold spot t e) v i k p g h = stands_has e v i k p g (and_parts (stands e v i k p) (all_hold t v i k) h).0
stands_has (Scope spot s e x a) v i k p g h = absurd (false≢true g)

fits_has : (e : Tree) (p x : ℕ) → fits p e x ≡ true → has_place p e ≡ true
fits_has (Empty spot) p x h = h
fits_has (Action spot a) p x h = h
fits_has (Terminal spot q t) p x h = (and_parts (nat_eq p q) (holds t x) h).0
fits_has (Seq spot e f) p x h = or_elim (fits p e x) (fits p f x) h (λ l. or_left _ _ (fits_has e p x l))
    (λ r. or_right _ _ (fits_has f p x r))
fits_has (Choice spot e f) p x h = or_elim (fits p e x) (fits p f x) h (λ l. or_left _ _ (fits_has e p x l))
    (λ r. or_right _ _ (fits_has f p x r))
fits_has (Star spot e) p x h = fits_has e p x h
fits_has (Hold spot t e) p x h = fits_has e p x (and_parts (fits p e x) (holds t x) h).0
fits_has (Scope spot s e c a) p x h =
    let here = has_place p e || has_place p c in
    or_elim (fits p e x || fits p c x) (fits p a x) h
    (λ l. or_left here (has_place p a) (or_elim (fits p e x) (fits p c x) l
    (λ b. or_left (has_place p e) (has_place p c) (fits_has e p x b))
    (λ b. or_right (has_place p e) (has_place p c) (fits_has c p x b))))
    (λ r. or_right here (has_place p a) (fits_has a p x r))

-- of two tests that cannot hold together, the one that is meant
is_left : (a b : Bool) → (a || b) ≡ true → (b ≡ true → ⊥) → a ≡ true
is_left a b h f = or_elim a b h (λ l. l) (λ r. absurd (f r))

is_right : (a b : Bool) → (a || b) ≡ true → (a ≡ true → ⊥) → b ≡ true
is_right a b h f = or_elim a b h (λ l. absurd (f l)) (λ r. r)

pub last_to_covers : (e : Tree) (v : List ℕ) (i k p : ℕ) → has_no_scope e ≡ true → PlacesOnce e → i ≤ k
    → is_last p e ≡ true → stands e v i k p ≡ true → fits p e (slice_index v k) ≡ true → covers e v i (suc k) ≡ true
last_to_covers (Empty spot) v i k p g once le l s h = absurd (false≢true l)
last_to_covers (Action spot a) v i k p g once le l s h = absurd (false≢true l)
last_to_covers (Terminal spot q t) v i k p g once le l s h =
    let same : k ≡ i = eqb-true k i (and_parts (nat_eq p q) (nat_eq k i) s).1 in
    and_from _ _ (eq-eqb (suc k) (i + 1) (omega arith)) (ap (λ m. holds t (slice_index v m)) (sym same)
    ∙ (and_parts (nat_eq p q) (holds t (slice_index v k)) h).1)
last_to_covers (Seq spot e f) v i k p g once le l s h =
    let n = and_parts (has_no_scope e) (has_no_scope f) g in
    or_elim (stands e v i k p) _ s
    (λ left.
    let not_f : has_place p f ≡ true → ⊥ = once.2 p (stands_has e v i k p n.0 left) in
    let last = and_parts (is_last p e) (nullable f) (is_right (is_last p f) (is_last p e && nullable f) l
    (λ b. not_f (last_has f p b))) in
    let fit = is_left (fits p e (slice_index v k)) (fits p f (slice_index v k)) h
    (λ b. not_f (fits_has f p (slice_index v k) b)) in
    split_from i (suc k) (covers e v i) (λ m. covers f v m (suc k)) (suc k) (omega arith) (omega arith)
    (last_to_covers e v i k p n.0 once.0 le last.0 left fit) (nullable_to_covers f v (suc k) last.1))
    (λ right.
    let w = split_to i k (covers e v i) (λ m. stands f v m k p) right in
    let not_e : has_place p e ≡ true → ⊥ = λ b. once.2 p b (stands_has f v w.0 k p n.1 w.4) in
    let last = is_left (is_last p f) (is_last p e && nullable f) l
    (λ b. not_e (last_has e p (and_parts (is_last p e) (nullable f) b).0)) in
    let fit = is_right (fits p e (slice_index v k)) (fits p f (slice_index v k)) h
    (λ b. not_e (fits_has e p (slice_index v k) b)) in
    let high : w.0 ≤ k = w.2 in
    split_from i (suc k) (covers e v i) (λ m. covers f v m (suc k)) w.0 w.1 (omega arith) w.3
    (last_to_covers f v w.0 k p n.1 once.1 w.2 last w.4 fit))
last_to_covers (Choice spot e f) v i k p g once le l s h =
    let n = and_parts (has_no_scope e) (has_no_scope f) g in
    or_elim (stands e v i k p) (stands f v i k p) s
    (λ left.
    let not_f : has_place p f ≡ true → ⊥ = once.2 p (stands_has e v i k p n.0 left) in
    or_left _ _
    (last_to_covers e v i k p n.0 once.0 le (is_left (is_last p e) (is_last p f) l (λ b. not_f (last_has f p b)))
    left
    (is_left (fits p e (slice_index v k)) (fits p f (slice_index v k)) h
    (λ b. not_f (fits_has f p (slice_index v k) b)))))
    (λ right.
    let not_e : has_place p e ≡ true → ⊥ = λ b. once.2 p b (stands_has f v i k p n.1 right) in
    or_right _ _
    (last_to_covers f v i k p n.1 once.1 le (is_right (is_last p e) (is_last p f) l (λ b. not_e (last_has e p b)))
    right
    (is_right (fits p e (slice_index v k)) (fits p f (slice_index v k)) h
    (λ b. not_e (fits_has e p (slice_index v k) b)))))
last_to_covers (Star spot e) v i k p g once le l s h =
    let w = split_to i k (covers (Star spot e) v i) (λ m. stands e v m k p) s in
    let high : w.0 ≤ k = w.2 in
    repeats_from (covers e v) i (suc k) (repeats_last (covers e v) (w.0 - i) i w.0 (suc k) w.3 (omega arith)
    (last_to_covers e v w.0 k p g once w.2 l w.4 h))
last_to_covers (Hold spot t e) v i k p g once le l s h =
    let a = and_parts (stands e v i k p) (all_hold t v i k) s in
    let b = and_parts (fits p e (slice_index v k)) (holds t (slice_index v k)) h in
    and_from _ _ (last_to_covers e v i k p g once le l a.0 b.0)
    (all_hold_from t v i (suc k) (λ m low high. elim (cases_lt m k) [
      | inl before ↦ all_hold_to t v i k a.1 m low before
      | inr now ↦ let same : m ≡ k = omega arith in ap (λ n. holds t (slice_index v n)) same ∙ b.1
    ]))
last_to_covers (Scope spot s e x a) v i k p g once le l q h = absurd (false≢true g)

-- the same at the end of the stretch
pub covers_last : (e : Tree) (v : List ℕ) (i j : ℕ) → has_no_scope e ≡ true → PlacesOnce e → i < j
    → (covers e v i j ≡ true) ↔ LastStands e v i (j - 1)
covers_last e v i j g once lt =
    let whole : suc (j - 1) ≡ j = omega arith in (
      λ h. covers_to_last e v i (j - 1) g (omega arith) (ap (covers e v i) whole ∙ h),
      λ r. ap (covers e v i) (sym whole) ∙ last_to_covers e v i (j - 1) r.0 g once (omega arith) r.1 r.2 r.3,
    )
