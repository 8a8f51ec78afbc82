-- Steps of a walk over a cone.
use Rattle.std.proofs.Common.{◌≡◌, ◌⊎◌, inl, inr, ℕ, zero, suc, ◌+◌, ◌<◌, ◌≤◌, Bool, true, false, List, [], ◌∷◌, ◌++◌, length, Some}
use Rattle.std.proofs.Common.{refl, sym, ap, subst, get_or, ◌∙◌, arith}
use Rattle.std.specs.Prelude.{slice_get, Contains}
use Rattle.std.proofs.lemmas.Bool.{cases_eq, cases_lt}
use Rattle.std.proofs.lemmas.List.{get_or-set_other, get_or-set_same}
use Rattle.std.proofs.Math.ListN.{set}
use Rattle.std.specs.List.Sorted.{IsPermutation}
use Rattle.std.proofs.lemmas.List.Sorted.{Contains-permutation, IsPermutation-sym}
use Rattle.std.proofs.lemmas.Option.{get_or_from_slice_get, same_Some, slice_get-get_or, slice_get_within}
use Rattle.net_core.specs.declared.gate.Wire.{Wire}
use Rattle.net_core.specs.declared.gate.Wire.TheVariants as wire
use Rattle.net_core.specs.declared.gate.Gate as gate
use Rattle.net_equiv.specs.declared.answer.VarName.{VarName}
use Rattle.net_equiv.specs.Cones.{AreSome, Has, InCone, IsLeafOf, root_itself, pin_of}
use Rattle.net_equiv.specs.inner.Walking.{is_marked, Adds, AreDone, AreListed, AreVisited, IsClosed, IsPin, IsVisited, Lists, Marks, PinsVisited}
use Rattle.net_equiv.proofs.Adding.{adds_then, adds_wider, leaf_wider, marks_then, marks_wider}

pub visited_kept : (name_of : ℕ → VarName) (M : Wire → Type 0) (N : VarName → Type 0) (m m' : List Bool)
    (v v' : List VarName) (w : Wire) → Marks M m m' → Adds N v v' → IsVisited name_of m v w → IsVisited name_of m' v' w
visited_kept name_of M N m m' v v' w p q r = record {
  marked = λ k e. p.kept k (r.marked k e);
  added = λ x e. q.kept x (r.added x e);
}

-- ---- numbers that are listed

pub lists_same : (m : List Bool) (f : List ℕ) → Lists m f m f
lists_same m f = record { kept = λ j k e. e; listed = λ l. l }

pub lists_then : (m m' m'' : List Bool) (f f' f'' : List ℕ) → Lists m f m' f' → Lists m' f' m'' f''
    → Lists m f m'' f''
lists_then m m' m'' f f' f'' p q =
    record { kept = λ j k e. q.kept j k (p.kept j k e); listed = λ l. q.listed (p.listed l) }

pub marked_within : (m : List Bool) (k : ℕ) → is_marked m k ≡ true → k < length m
marked_within [] k h = absurd (cc)
marked_within (b ∷ bs) zero h = omega arith
marked_within (b ∷ bs) (suc k) h = let l = marked_within bs k h in omega arith

in_front : (f : List ℕ) (n j k : ℕ) → slice_get f j ≡ Some k → slice_get (f ++ n ∷ []) j ≡ Some k
in_front [] n j k e = absurd (cc)
in_front (x ∷ f) n zero k e = e
in_front (x ∷ f) n (suc j) k e = in_front f n j k e

at_end : (f : List ℕ) (n j k : ℕ) → slice_get (f ++ n ∷ []) j ≡ Some k → (slice_get f j ≡ Some k) ⊎ (n ≡ k)
at_end [] n zero k e = inr (same_Some n k e)
at_end [] n (suc j) k e = absurd (cc)
at_end (x ∷ f) n zero k e = inl e
at_end (x ∷ f) n (suc j) k e = at_end f n j k e

last_there : (f : List ℕ) (n : ℕ) → slice_get (f ++ n ∷ []) (length f) ≡ Some n
last_there [] n = refl
last_there (x ∷ f) n = last_there f n

pub contains_at : (f : List ℕ) (j k : ℕ) → slice_get f j ≡ Some k → Contains f k
contains_at f j k e = (j, slice_get_within f j k e, get_or_from_slice_get f j k k e)

pub at_place : (f : List ℕ) (k : ℕ) (c : Contains f k) → slice_get f c.0 ≡ Some k
at_place f k c = slice_get-get_or f c.0 k c.1 ∙ ap (λ x. Some x) c.2

mark_kept : (m : List Bool) (n k : ℕ) → is_marked m k ≡ true → is_marked (set m n true) k ≡ true
mark_kept m n k h =
    elim (cases_eq k n) [
      | inl same ↦
          let within : n < length m = subst (λ j. j < length m) same (marked_within m k h) in
          subst (λ j. is_marked (set m n true) j ≡ true) (sym same) (get_or-set_same m n true false within)
      | inr other ↦ get_or-set_other m n k true false other ∙ h
    ]

pub set_marks : (m : List Bool) (n : ℕ) → Marks (λ w. w ≡ wire.Gate n) m (set m n true)
set_marks m n = record {
  kept = mark_kept m n;
  each = λ k h. elim (cases_eq k n) [
    | inl same ↦ inr (ap (λ j. wire.Gate j) same)
    | inr other ↦ inl (sym (get_or-set_other m n k true false other) ∙ h)
  ];
}

-- one gate more is marked and listed
pub lists_more : (m : List Bool) (f : List ℕ) (n : ℕ) → n < length m
    → Lists m f (set m n true) (f ++ n ∷ [])
lists_more m f n within = record {
  kept = λ j k e. in_front f n j k e;
  listed = λ l. record {
    each = λ k h. elim (cases_eq k n) [
      | inl same ↦
          contains_at (f ++ n ∷ []) (length f) k (last_there f n ∙ ap (λ x. Some x) (sym same))
      | inr other ↦
          let old : is_marked m k ≡ true = sym (get_or-set_other m n k true false other) ∙ h in
          let place = l.each k old in
          contains_at (f ++ n ∷ []) place.0 k (in_front f n place.0 k (at_place f k place))
    ];
    back = λ j k e. elim (at_end f n j k e) [
      | inl old ↦ mark_kept m n k (l.back j k old)
      | inr same ↦ subst (λ x. is_marked (set m n true) x ≡ true) same (get_or-set_same m n true false within)
    ];
  };
}

-- ---- a step of a walk

module _ (gates : List gate.Gate) (root : Wire) (name_of : ℕ → VarName) (m m' : List Bool) (v v' : List VarName) (n : ℕ)
    (g : gate.Gate) (at : slice_get gates n ≡ Some g) (marks : Marks (IsPin g.pins) m m')
    (adds : Adds (IsLeafOf name_of (IsPin g.pins)) v v') where
  module _ (is_so : is_marked m n ≡ true)
      (inside : (k : ℕ) → is_marked m k ≡ true → InCone gates root (wire.Gate k)) where
    pin_inside : (w : Wire) → IsPin g.pins w → InCone gates root w
    pin_inside w p = pin_of n p.place g w (inside n is_so) at p.at

    pub inside_step : (k : ℕ) → is_marked m' k ≡ true → InCone gates root (wire.Gate k)
    inside_step k h = elim (marks.each k h) [ inl old ↦ inside k old | inr p ↦ pin_inside (wire.Gate k) p ]

    pub adds_step : (v0 : List VarName) → Adds (IsLeafOf name_of (InCone gates root)) v0 v
        → Adds (IsLeafOf name_of (InCone gates root)) v0 v'
    adds_step v0 before =
        adds_then (IsLeafOf name_of (InCone gates root)) v0 v v' before
        (adds_wider (IsLeafOf name_of (IsPin g.pins)) (IsLeafOf name_of (InCone gates root)) v v'
        (λ x leaf. leaf_wider name_of (IsPin g.pins) (InCone gates root) pin_inside x leaf) adds)

  pub done_step : (i : ℕ) (f f' : List ℕ) → slice_get f i ≡ Some n → Lists m f m' f'
      → AreVisited name_of m' v' (IsPin g.pins) → AreDone gates name_of i f m v → AreDone gates name_of (i + 1) f' m' v'
  done_step i f f' here lists visited before = record { each = λ j k h lt e e'. by j k h lt e e' (cases_lt j i) }
    where
      by : (j k : ℕ) (h : gate.Gate) → j < i + 1 → slice_get f' j ≡ Some k → slice_get gates k ≡ Some h
          → (j < i) ⊎ (i ≤ j) → AreVisited name_of m' v' (IsPin h.pins)
      by j k h lt e e' (inl below) =
          let within : j < length f = let l = slice_get_within f i n here in omega arith in
          let old = slice_get-get_or f j 0 within in
          let same : get_or f j 0 ≡ k = same_Some (get_or f j 0) k (sym (lists.kept j (get_or f j 0) old) ∙ e) in
          let seen = before.each j k h below (old ∙ ap (λ x. Some x) same) e' in
          record {
            each = λ w pin.
                visited_kept name_of (IsPin g.pins) (IsLeafOf name_of (IsPin g.pins)) m m' v v' w marks adds
                (seen.each w pin);
          }
      by j k h lt e e' (inr ge) =
          let s : i ≡ j = omega arith in
          let number : n ≡ k =
          same_Some n k (sym (lists.kept i n here) ∙ (ap (λ t. slice_get f' t) s ∙ e)) in
          let same : g ≡ h = same_Some g h (sym at ∙ (ap (λ t. slice_get gates t) number ∙ e')) in
          subst (λ (x : gate.Gate). AreVisited name_of m' v' (IsPin x.pins)) same visited

-- once the pins of all listed gates were visited, those of all marked gates were
pub done_closed : (gates : List gate.Gate) (name_of : ℕ → VarName) (root : Wire) (m : List Bool) (f : List ℕ)
    (v : List VarName) (i : ℕ) → length f ≤ i → length m ≡ length gates → AreListed m f
    → IsVisited name_of m v root → AreDone gates name_of i f m v → IsClosed gates name_of root m v
done_closed gates name_of root m f v i past long listed at_root done = record {
  long = long;
  root_visited = at_root;
  pins = record {
    each = λ k g le marked at.
        let found = listed.each k marked in
        done.each found.0 k g (let l = found.1 in omega arith) (at_place f k found) at;
  };
}

pub done_begin : (gates : List gate.Gate) (name_of : ℕ → VarName) (f : List ℕ) (m : List Bool) (v : List VarName)
    → AreDone gates name_of 0 f m v
done_begin gates name_of f m v = record { each = λ j k g lt e e'. absurd (omega arith) }

-- everything in the cone was visited
pub cone_visited : (gates : List gate.Gate) (root : Wire) (name_of : ℕ → VarName) (m : List Bool) (v : List VarName)
    → IsVisited name_of m v root → PinsVisited gates name_of 0 m v → (w : Wire) → InCone gates root w
    → IsVisited name_of m v w
cone_visited gates root name_of m v at_root pins w root_itself = at_root
cone_visited gates root name_of m v at_root pins w (pin_of n k g u inside at pin) =
    let here = cone_visited gates root name_of m v at_root pins (wire.Gate n) inside in
    (pins.each n g (omega arith) (here.marked n refl) at).each u (record { place = k; at = pin })

-- ---- the pins of one gate

module _ (pins : List Wire) (i : ℕ) (h : i < length pins) where
  is_pin : (u : Wire) → u ≡ get_or pins i (wire.Const false) → IsPin pins u
  is_pin u e = record {
    place = i;
    at = slice_get-get_or pins i (wire.Const false) h ∙ ap (λ (x : Wire). Some x) (sym e);
  }

  pub marks_pin : (m0 m m' : List Bool) → Marks (IsPin pins) m0 m
      → Marks (λ u. u ≡ get_or pins i (wire.Const false)) m m' → Marks (IsPin pins) m0 m'
  marks_pin m0 m m' p q =
      marks_then (IsPin pins) m0 m m' p
      (marks_wider (λ u. u ≡ get_or pins i (wire.Const false)) (IsPin pins) m m' (λ u e. is_pin u e) q)

  pub adds_pin : (name_of : ℕ → VarName) (v0 v v' : List VarName) → Adds (IsLeafOf name_of (IsPin pins)) v0 v
      → Adds (IsLeafOf name_of (λ u. u ≡ get_or pins i (wire.Const false))) v v'
      → Adds (IsLeafOf name_of (IsPin pins)) v0 v'
  adds_pin name_of v0 v v' p q =
      adds_then (IsLeafOf name_of (IsPin pins)) v0 v v' p
      (adds_wider (IsLeafOf name_of (λ u. u ≡ get_or pins i (wire.Const false))) (IsLeafOf name_of (IsPin pins)) v v'
      (λ x leaf. leaf_wider name_of (λ u. u ≡ get_or pins i (wire.Const false)) (IsPin pins) (λ u e. is_pin u e) x leaf)
      q)

  pub visited_more : (name_of : ℕ → VarName) (m m' : List Bool) (v v' : List VarName)
      → ((k : ℕ) (w : Wire) → k < i → slice_get pins k ≡ Some w → IsVisited name_of m v w)
      → Marks (λ u. u ≡ get_or pins i (wire.Const false)) m m'
      → Adds (IsLeafOf name_of (λ u. u ≡ get_or pins i (wire.Const false))) v v'
      → IsVisited name_of m' v' (get_or pins i (wire.Const false))
      → (k : ℕ) (w : Wire) → k < i + 1 → slice_get pins k ≡ Some w → IsVisited name_of m' v' w
  visited_more name_of m m' v v' before p q here k w l e = by (cases_lt k i)
    where
      by : (k < i) ⊎ (i ≤ k) → IsVisited name_of m' v' w
      by (inl lt) =
          visited_kept name_of (λ u. u ≡ get_or pins i (wire.Const false))
          (IsLeafOf name_of (λ u. u ≡ get_or pins i (wire.Const false))) m m' v v' w p q (before k w lt e)
      by (inr ge) =
          let s : i ≡ k = omega arith in
          let same : get_or pins i (wire.Const false) ≡ w =
          get_or_from_slice_get pins i w (wire.Const false) (ap (λ j. slice_get pins j) s ∙ e) in
          subst (λ (u : Wire). IsVisited name_of m' v' u) same here

pub all_visited : (name_of : ℕ → VarName) (m : List Bool) (v : List VarName) (pins : List Wire) (i : ℕ)
    → length pins ≤ i → ((k : ℕ) (w : Wire) → k < i → slice_get pins k ≡ Some w → IsVisited name_of m v w)
    → AreVisited name_of m v (IsPin pins)
all_visited name_of m v pins i h all = record {
  each = λ w pin.
      let within = slice_get_within pins pin.place w pin.at in all pin.place w (omega arith) pin.at;
}

-- ---- what a walk gives

pub has_meant : (M : VarName → Type 0) (v : List VarName) → Adds M [] v → AreSome M v
has_meant M v a = record {
  rising = a.rising (record { order = λ s t x y l e f. absurd (cc) });
  each = λ t x e. elim (a.each t x e) [ inl h ↦ absurd (none_in x h) | inr m ↦ m ];
}
  where
    none_in : (x : VarName) → Has [] x → ⊥
    none_in x h = let e = h.at in absurd (cc)

-- ---- the begin of a walk

pub inside_begin : (gates : List gate.Gate) (root : Wire) (m0 m : List Bool)
    → ((k : ℕ) → is_marked m0 k ≡ true → ⊥) → Marks (λ w. w ≡ root) m0 m → (k : ℕ) → is_marked m k ≡ true
    → InCone gates root (wire.Gate k)
inside_begin gates root m0 m none marks k h = by (marks.each k h)
  where
    by : (is_marked m0 k ≡ true) ⊎ (wire.Gate k ≡ root) → InCone gates root (wire.Gate k)
    by (inl old) = absurd (none k old)
    by (inr e) = subst (λ (w : Wire). InCone gates root w) (sym e) root_itself

pub listed_begin : (m : List Bool) (f : List ℕ) → f ≡ [] → ((k : ℕ) → is_marked m k ≡ true → ⊥) → AreListed m f
listed_begin m f empty none = record {
  each = λ k h. absurd (none k h);
  back = λ j k e. absurd (no_more j k (sym (ap (λ (xs : List ℕ). slice_get xs j) empty) ∙ e));
}
  where
    no_more : (j k : ℕ) → slice_get [] j ≡ Some k → ⊥
    no_more j k e = cc

pub adds_begin : (gates : List gate.Gate) (root : Wire) (name_of : ℕ → VarName) (v v' : List VarName)
    → Adds (IsLeafOf name_of (λ w. w ≡ root)) v v' → Adds (IsLeafOf name_of (InCone gates root)) v v'
adds_begin gates root name_of v v' adds =
    adds_wider (IsLeafOf name_of (λ w. w ≡ root)) (IsLeafOf name_of (InCone gates root)) v v'
    (λ x leaf. leaf_wider name_of (λ w. w ≡ root) (InCone gates root)
    (λ w e. subst (λ (u : Wire). InCone gates root u) (sym e) root_itself) x leaf) adds

-- ---- sorting, and taking marks away

pub listed_sorted : (m : List Bool) (f f' : List ℕ) → IsPermutation f f' → AreListed m f → AreListed m f'
listed_sorted m f f' p l = record {
  each = λ k h. Contains-permutation f f' k p (l.each k h);
  back = λ j k e.
      let place = Contains-permutation f' f k (IsPermutation-sym f f' p) (contains_at f' j k e) in
      l.back place.0 k (at_place f k place);
}

-- the marks that are left are of the later listed gates
pub record AreLeft (m : List Bool) (f : List ℕ) (i : ℕ) : Type 0 where
  pub each : (k : ℕ) → is_marked m k ≡ true → (j : ℕ) × (i ≤ j) × (slice_get f j ≡ Some k)

pub left_begin : (m : List Bool) (f : List ℕ) → AreListed m f → AreLeft m f 0
left_begin m f l = record {
  each = λ k h. let place = l.each k h in (place.0, omega arith, at_place f k place);
}

pub left_step : (m : List Bool) (f : List ℕ) (i n : ℕ) → slice_get f i ≡ Some n → n < length m → AreLeft m f i
    → AreLeft (set m n false) f (i + 1)
left_step m f i n here within left = record { each = λ k h. by k h (cases_eq k n) }
  where
    still : (k : ℕ) → (k ≡ n → ⊥) → (j : ℕ) → i ≤ j → slice_get f j ≡ Some k → i + 1 ≤ j
    still k other j le e =
        elim (cases_eq i j) [
          | inl same ↦ absurd (other (same_Some k n (sym e ∙ (ap (λ t. slice_get f t) (sym same) ∙ here))))
          | inr more ↦ omega arith
        ]

    by : (k : ℕ) → is_marked (set m n false) k ≡ true → (k ≡ n) ⊎ (k ≡ n → ⊥)
        → (j : ℕ) × (i + 1 ≤ j) × (slice_get f j ≡ Some k)
    by k h (inl same) =
        let clear : is_marked (set m n false) n ≡ false = get_or-set_same m n false false within in
        let marked : is_marked (set m n false) n ≡ true =
        subst (λ t. is_marked (set m n false) t ≡ true) same h in
        absurd (cc)
    by k h (inr other) =
        let place = left.each k (sym (get_or-set_other m n k false false other) ∙ h) in
        (place.0, still k other place.0 place.1 place.2, place.2)

pub none_left : (m : List Bool) (f : List ℕ) (i : ℕ) → length f ≤ i → AreLeft m f i → (k : ℕ)
    → is_marked m k ≡ true → ⊥
none_left m f i past left k h =
    let place = left.each k h in
    let within = slice_get_within f place.0 k place.2 in
    let le = place.1 in
    omega arith
