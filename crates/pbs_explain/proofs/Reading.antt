-- What the charts over the items tell.
use Rattle.std.proofs.Common.{◌≡◌, ℕ, zero, suc, ◌+◌, ◌-◌, ◌<◌, ◌≤◌, Bool, true, not, ◌&&◌, ◌||◌, nat_eq, nat_lt}
use Rattle.std.proofs.Common.{List, [], ◌∷◌, ◌++◌, length, Some, inl, inr, refl, sym, ap, ◌∙◌, arith, subst}
use Rattle.std.specs.Prelude.{◌↔◌, ◌⊎◌, slice_get, slice_index, None, Option}
use Rattle.std.proofs.lemmas.Bool.{and_parts, and_from, eqb-true, eq-eqb, ltb-true, lt-ltb, or_left, or_right, cases_lt}
use Rattle.std.proofs.lemmas.Bool.{false≢true}
use Rattle.bool_terms.specs.Terms.{Term, holds}
use Rattle.pbs_ast.specs.Trees.{Tree}
use Rattle.pbs_ast.specs.Trees as tree
use Rattle.pbs_derive.specs.Derivations.{IsAbort, trips, some_after, all_hold}
use Rattle.pbs_covers.specs.Grids.{entry, at, joint, throughout}
use Rattle.pbs_derive.proofs.Positions.{split_to, split_from, or_elim, none_to, none_from, each_to, each_from, after_from}
use Rattle.pbs_explain.specs.declared.derivation.Item.{Item}
use Rattle.pbs_explain.specs.declared.derivation.Item.TheVariants.{Take, Cut}
use Rattle.pbs_explain.specs.declared.step.Chart.{Chart}
use Rattle.pbs_explain.specs.declared.step.Step.{Step}
use Rattle.pbs_explain.specs.declared.step.Step.TheVariants as step
use Rattle.pbs_explain.specs.inner.Charts.{IsCovers, IsFires}
use Rattle.pbs_explain.specs.Explained.{Turns, no_turn, one_more, Derives, Ends, NoAbort}
use Rattle.pbs_explain.specs.Firsts.{least_after}
use Rattle.pbs_explain.specs.inner.Checked.{next, moved, leads, reached, between, is_take, is_cut, aborts, takes_at, cuts_at, scoped}
use Rattle.pbs_explain.specs.inner.Checked.{Reads, IsReadStep}
use Rattle.pbs_explain.proofs.Derived.{none_trips, no_abort, least_abort}
use Rattle.pbs_explain.proofs.Reached.{between_none, between_length, between_on, between_split, one_between, head_between}
use Rattle.pbs_explain.proofs.Reached.{reached_moved, reached_rises, reached_order, leads_moved, derives_leads}

take_told : (p : ℕ) (x : Option Item) → is_take p x ≡ true → x ≡ Some (Take p)
take_told p None h = absurd (false≢true h)
take_told p (Some (Take q)) h = ap (λ n. Some (Take n)) (eqb-true q p h)
take_told p (Some (Cut s m)) h = absurd (false≢true h)

cut_told : (s : ℕ) (x : Option Item) → is_cut s x ≡ true → (m : ℕ) × (x ≡ Some (Cut s m))
cut_told s None h = absurd (false≢true h)
cut_told s (Some (Take q)) h = absurd (false≢true h)
cut_told s (Some (Cut q m)) h = (m, ap (λ n. Some (Cut n m)) (eqb-true q s h))

-- the test of an abort position
pub aborts_to : (e x : Tree) (v : List ℕ) (i m : ℕ) → aborts e x v i m ≡ true → IsAbort e x v i m
aborts_to e x v i m h =
    let p = and_parts (some_after i m (trips e x v i)) (nat_eq (least_after i m (trips e x v i)) m) h in
    let l = least_abort e x v i m p.0 in
    subst (λ n. IsAbort e x v i n) (eqb-true (least_after i m (trips e x v i)) m p.1) l.1

pub aborts_from : (e x : Tree) (v : List ℕ) (i m : ℕ) → IsAbort e x v i m → aborts e x v i m ≡ true
aborts_from e x v i m a =
    let test = trips e x v i in
    let lt : i < m = a.0 in
    let some : some_after i m test ≡ true = after_from i m test m lt (omega arith) a.1 in
    let n = least_after i m test in
    let l = least_abort e x v i m some in
    let high : n ≤ m = l.0 in
    let low : i < n = l.1.0 in
    let same : n ≡ m = elim (cases_lt n m) [
      | inl less ↦ absurd (a.2 n low less l.1.1)
      | inr ge ↦ omega arith
    ] in
    and_from _ _ some (eq-eqb n m same)

module _ (v : List ℕ) (items : List Item) (node : ℕ) (right : leads 0 items (length v) ≡ true) where
  abbrev n : ℕ
  n = length items

  abbrev pos : ℕ → ℕ
  pos c = reached 0 items c

  -- the grid tells of each part of the items whether the relation holds
  abbrev Means : List (List Bool) → (ℕ → ℕ → List Item → Type 0) → Type 0
  Means grid r = (c d : ℕ) → c ≤ d → d ≤ n → (at n grid c d ≡ true) ↔ r (pos c) (pos d) (between items c d)

  order : (c d : ℕ) → c ≤ d → d ≤ n → pos c ≤ pos d
  order c d le to = reached_order 0 items (length v) c d right le to

  rises : (c d : ℕ) → c < d → d ≤ n → pos c < pos d
  rises c d lt to = reached_rises 0 items (length v) c d right lt to

  -- a part of no items
  none_same : (c d : ℕ) → c ≤ d → d ≤ n → between items c d ≡ [] → c ≡ d
  none_same c d le to e =
      let l : length (between items c d) ≡ d - c = between_length items c d to in
      let z : length (between items c d) ≡ 0 = ap length e in
      omega arith

  some_more : (c d : ℕ) (x : Item) (rest : List Item) → d ≤ n → between items c d ≡ x ∷ rest → c < d
  some_more c d x rest to e =
      let l : length (between items c d) ≡ d - c = between_length items c d to in
      let z : length (between items c d) ≡ suc (length rest) = ap length e in
      omega arith

  same_place : (c d : ℕ) → c ≡ d → (pos c ≡ pos d) × (between items c d ≡ [])
  same_place c d e = (ap pos e, between_none items c d (omega arith))

  -- what one item is followed by
  rest_is : (c d : ℕ) (x : Item) (rest : List Item) → c < d → d ≤ n → between items c d ≡ x ∷ rest
      → (rest ≡ between items (c + 1) d) × (pos (c + 1) ≡ next (pos c) x) × (slice_get items c ≡ Some x)
  rest_is c d x rest lt to e =
      let s = between_split items c d (x ∷ []) rest (omega arith) to e in
      let g = head_between items c d x rest e in
      (s.2, (one_between 0 items c x g).1, g)

  first_is : (c d : ℕ) (x : Item) → c < d → slice_get items c ≡ Some x
      → between items c d ≡ x ∷ between items (c + 1) d
  first_is c d x lt g =
      sym (between_on items c (c + 1) d (omega arith) (omega arith))
      ∙ ap (λ ys. ys ++ between items (c + 1) d) (one_between 0 items c x g).0

  -- a split of the items is a split of the positions
  split_is : (e : Tree) (c d m : ℕ) (front rest : List Item) → c ≤ d → d ≤ n → Derives e v (pos c) m front
      → between items c d ≡ front ++ rest
      → (k : ℕ) × (c ≤ k) × (k ≤ d) × (m ≡ pos k) × (front ≡ between items c k) × (rest ≡ between items k d)
  split_is e c d m front rest le to h parts =
      let s = between_split items c d front rest le to parts in
      let k = c + length front in (
        k,
        omega arith,
        s.0,
        sym (leads_moved (pos c) front m (derives_leads e v (pos c) m front h))
            ∙ (ap (moved (pos c)) s.1 ∙ reached_moved 0 items c k (omega arith)),
        s.1,
        s.2,
      )

  abbrev Joined : Tree → (ℕ → ℕ → List Item → Type 0) → ℕ → ℕ → List Item → Type 0
  Joined e r i j xs =
      (m : ℕ) × (front : List Item) × (rest : List Item) × (i ≤ m) × (m ≤ j) × Derives e v i m front
      × r m j rest × (xs ≡ front ++ rest)

  joint_means : (e : Tree) (left next : List (List Bool)) (r : ℕ → ℕ → List Item → Type 0) → Means left (Derives e v)
      → Means next r → (c d : ℕ) → c ≤ d → d ≤ n
      → (joint n left next c c d ≡ true) ↔ Joined e r (pos c) (pos d) (between items c d)
  joint_means e left next r p q c d le to = (
    λ h.
        let w = split_to c d (λ m. at n left c m) (λ m. at n next m d) h in
        let k = w.0 in
        let low : c ≤ k = w.1 in
        let high : k ≤ d = w.2 in (
          pos k,
          between items c k,
          between items k d,
          order c k low (omega arith),
          order k d high to,
          (p c k low (omega arith)).0 w.3,
          (q k d high to).0 w.4,
          sym (between_on items c k d low high),
        ),
    λ h.
        let s = split_is e c d h.0 h.1 h.2 le to h.5 h.7 in
        let k = s.0 in
        let low : c ≤ k = s.1 in
        let high : k ≤ d = s.2 in
        let l : Derives e v (pos c) (pos k) (between items c k) =
        subst (λ xs. Derives e v (pos c) (pos k) xs) s.4 (subst (λ m. Derives e v (pos c) m h.1) s.3 h.5) in
        let t : r (pos k) (pos d) (between items k d) =
        subst (λ xs. r (pos k) (pos d) xs) s.5 (subst (λ m. r m (pos d) h.2) s.3 h.6) in
        split_from c d (λ m. at n left c m) (λ m. at n next m d) k low high ((p c k low (omega arith)).1 l)
        ((q k d high to).1 t),
  )

  -- the truths of the items, and those of the vectors below them
  hold_to : (t : Term) (truths : List Bool)
      → ((c : ℕ) → c < n → entry truths c ≡ all_hold t v (pos c) (pos (c + 1))) → (g c d : ℕ) → c + g ≡ d → d ≤ n
      → throughout truths c d ≡ true → all_hold t v (pos c) (pos d) ≡ true
  hold_to t truths f zero c d e to h =
      let same : pos c ≡ pos d = ap pos (omega arith) in
      each_from (pos c) (pos d) (λ m. holds t (slice_index v m)) (λ m low high. absurd (omega arith))
  hold_to t truths f (suc g) c d e to h =
      let more : all_hold t v (pos (c + 1)) (pos d) ≡ true =
      hold_to t truths f g (c + 1) d (omega arith) to
      (each_from (c + 1) d (entry truths) (λ m low high. each_to c d (entry truths) h m (omega arith) high)) in
      let here : all_hold t v (pos c) (pos (c + 1)) ≡ true =
      sym (f c (omega arith)) ∙ each_to c d (entry truths) h c (omega arith) (omega arith) in
      each_from (pos c) (pos d) (λ m. holds t (slice_index v m)) (λ m low high. elim (cases_lt m (pos (c + 1))) [
        | inl lt ↦ each_to (pos c) (pos (c + 1)) (λ m. holds t (slice_index v m)) here m low lt
        | inr ge ↦ each_to (pos (c + 1)) (pos d) (λ m. holds t (slice_index v m)) more m (omega arith) high
      ])

  hold_from : (t : Term) (truths : List Bool)
      → ((c : ℕ) → c < n → entry truths c ≡ all_hold t v (pos c) (pos (c + 1))) → (c d : ℕ) → d ≤ n
      → all_hold t v (pos c) (pos d) ≡ true → throughout truths c d ≡ true
  hold_from t truths f c d to h =
      each_from c d (entry truths) (λ k low high.
      let a : pos c ≤ pos k = order c k low (omega arith) in
      let b : pos (k + 1) ≤ pos d = order (k + 1) d (omega arith) to in
      f k (omega arith)
      ∙ each_from (pos k) (pos (k + 1)) (λ m. holds t (slice_index v m))
      (λ m low' high'. each_to (pos c) (pos d) (λ m. holds t (slice_index v m)) h m (omega arith) (omega arith)))

  hold_means : (t : Term) (truths : List Bool) (grid : List (List Bool)) (r : ℕ → ℕ → List Item → Type 0)
      → ((c : ℕ) → c < n → entry truths c ≡ all_hold t v (pos c) (pos (c + 1))) → Means grid r → (c d : ℕ) → c ≤ d
      → d ≤ n → ((at n grid c d && throughout truths c d) ≡ true)
      ↔ (r (pos c) (pos d) (between items c d) × (all_hold t v (pos c) (pos d) ≡ true))
  hold_means t truths grid r f p c d le to = (
    λ h.
        let q = and_parts (at n grid c d) (throughout truths c d) h in
        ((p c d le to).0 q.0, hold_to t truths f (d - c) c d (omega arith) to q.1),
    λ h. and_from _ _ ((p c d le to).1 h.0) (hold_from t truths f c d to h.1),
  )

  or_means : (left next : List (List Bool)) (r s : ℕ → ℕ → List Item → Type 0) → Means left r → Means next s → (c d : ℕ)
      → c ≤ d → d ≤ n → ((at n left c d || at n next c d) ≡ true)
      ↔ (r (pos c) (pos d) (between items c d) ⊎ s (pos c) (pos d) (between items c d))
  or_means left next r s p q c d le to = (
    λ h. or_elim (at n left c d) (at n next c d) h (λ a. inl ((p c d le to).0 a)) (λ b. inr ((q c d le to).0 b)),
    λ h. elim h [
      | inl a ↦ or_left _ _ ((p c d le to).1 a)
      | inr b ↦ or_right _ _ ((q c d le to).1 b)
    ],
  )

  -- the turns of a star
  star_to : (e : Tree) (grid own : List (List Bool)) → Means grid (Derives e v)
      → ((c d : ℕ) → c ≤ d → d ≤ n → at n own c d ≡ (nat_eq c d || joint n grid own (c + 1) c d)) → (g c d : ℕ)
      → d - c ≤ g → c ≤ d → d ≤ n → at n own c d ≡ true → Turns (Derives e v) (pos c) (pos d) (between items c d)
  star_to e grid own p f zero c d enough le to h =
      let s = same_place c d (omega arith) in
      subst (λ xs. Turns (Derives e v) (pos c) (pos d) xs) (sym s.1)
      (subst (λ j. Turns (Derives e v) (pos c) j []) s.0 no_turn)
  star_to e grid own p f (suc g) c d enough le to h =
      or_elim (nat_eq c d) (joint n grid own (c + 1) c d) (sym (f c d le to) ∙ h)
      (λ same.
      let s = same_place c d (eqb-true c d same) in
      subst (λ xs. Turns (Derives e v) (pos c) (pos d) xs) (sym s.1)
      (subst (λ j. Turns (Derives e v) (pos c) j []) s.0 no_turn))
      (λ more.
      let w = split_to (c + 1) d (λ m. at n grid c m) (λ m. at n own m d) more in
      let k = w.0 in
      let low : c + 1 ≤ k = w.1 in
      let high : k ≤ d = w.2 in
      subst (λ xs. Turns (Derives e v) (pos c) (pos d) xs)
      (between_on items c k d (omega arith) high)
      (one_more (rises c k (omega arith) (omega arith)) (order k d high to)
      ((p c k (omega arith) (omega arith)).0 w.3)
      (star_to e grid own p f g k d (omega arith) high to w.4)))

  star_from : (e : Tree) (grid own : List (List Bool)) → Means grid (Derives e v)
      → ((c d : ℕ) → c ≤ d → d ≤ n → at n own c d ≡ (nat_eq c d || joint n grid own (c + 1) c d)) → (i j : ℕ)
      (xs : List Item) → Turns (Derives e v) i j xs → (c d : ℕ) → c ≤ d → d ≤ n → i ≡ pos c → j ≡ pos d
      → between items c d ≡ xs → at n own c d ≡ true
  star_from e grid own p f _ _ _ (no_turn {i = i}) c d le to start end parts =
      f c d le to ∙ or_left _ _ (eq-eqb c d (none_same c d le to parts))
  star_from e grid own p f _ _ _ (one_more {i = i} {m = m} {j = j} {front = front} {rest = rest} lt high here more)
      c d le to start end parts =
      let own_turn : Derives e v (pos c) m front = subst (λ i. Derives e v i m front) start here in
      let s = split_is e c d m front rest le to own_turn parts in
      let k = s.0 in
      let a : c ≤ k = s.1 in
      let b : k ≤ d = s.2 in
      let at_k : m ≡ pos k = s.3 in
      let moves : c < k = elim (cases_lt c k) [
        | inl less ↦ less
        | inr ge ↦
            let same : c ≡ k = omega arith in
            let still : pos c ≡ pos k = ap pos same in
            absurd (omega arith)
      ] in
      let l : Derives e v (pos c) (pos k) (between items c k) =
      subst (λ xs. Derives e v (pos c) (pos k) xs) s.4 (subst (λ m. Derives e v (pos c) m front) at_k own_turn) in
      f c d le to
      ∙ or_right _ _
      (split_from (c + 1) d (λ m. at n grid c m) (λ m. at n own m d) k (omega arith) b
      ((p c k a (omega arith)).1 l)
      (star_from e grid own p f m j rest more k d b to at_k end (sym s.5)))

  -- a scope that is kept or cut
  scoped_means : (s : ℕ) (e x : Tree) (cuts : List Bool) (body after : List (List Bool))
      (r q : ℕ → ℕ → List Item → Type 0) → ((c : ℕ) → c < n → entry cuts c ≡ cuts_at s e x v items c) → Means body r
      → Means after q → (c d : ℕ) → c ≤ d → d ≤ n → (scoped e x v items cuts body after c d ≡ true)
      ↔ ((NoAbort e x v (pos c) (pos d) × r (pos c) (pos d) (between items c d))
      ⊎ ((m : ℕ) × (rest : List Item) × (m ≤ pos d) × IsAbort e x v (pos c) m × q m (pos d) rest
      × (between items c d ≡ Cut s m ∷ rest)))
  scoped_means s e x cuts body after r q f p o c d le to = (
    λ h. or_elim (not (some_after (pos c) (pos d) (trips e x v (pos c))) && at n body c d)
        (nat_lt c d && (entry cuts c && at n after (c + 1) d)) h
        (λ kept.
        let w = and_parts (not (some_after (pos c) (pos d) (trips e x v (pos c)))) (at n body c d) kept in
        inl (no_abort e x v (pos c) (pos d) (none_to (pos c) (pos d) (trips e x v (pos c)) w.0), (p c d le to).0 w.1))
        (λ cut.
        let w = and_parts (nat_lt c d) (entry cuts c && at n after (c + 1) d) cut in
        let u = and_parts (entry cuts c) (at n after (c + 1) d) w.1 in
        let lt : c < d = ltb-true c d w.0 in
        let k = and_parts (is_cut s (slice_get items c)) (aborts e x v (pos c) (pos (c + 1)))
        (sym (f c (omega arith)) ∙ u.0) in
        let told = cut_told s (slice_get items c) k.0 in
        let there : pos (c + 1) ≡ told.0 = (one_between 0 items c (Cut s told.0) told.1).1 in
        inr (
          pos (c + 1),
          between items (c + 1) d,
          order (c + 1) d (omega arith) to,
          aborts_to e x v (pos c) (pos (c + 1)) k.1,
          (o (c + 1) d (omega arith) to).0 u.1,
          first_is c d (Cut s told.0) lt told.1 ∙ ap (λ m. Cut s m ∷ between items (c + 1) d) (sym there),
        )),
    λ h. elim h [
      | inl w ↦ or_left _ _ (and_from _ _
          (none_from (pos c) (pos d) (trips e x v (pos c)) (none_trips e x v (pos c) (pos d) w.0)) ((p c d le to).1 w.1))
      | inr w ↦
          let m = w.0 in
          let rest = w.1 in
          let lt : c < d = some_more c d (Cut s m) rest to w.5 in
          let i = rest_is c d (Cut s m) rest lt to w.5 in
          let there : pos (c + 1) ≡ m = i.1 in
          let is : is_cut s (slice_get items c) ≡ true = ap (is_cut s) i.2 ∙ eq-eqb s s refl in
          let aborted : aborts e x v (pos c) (pos (c + 1)) ≡ true =
          aborts_from e x v (pos c) (pos (c + 1)) (subst (λ m. IsAbort e x v (pos c) m) (sym there) w.3) in
          let goes : q (pos (c + 1)) (pos d) (between items (c + 1) d) =
          subst (λ xs. q (pos (c + 1)) (pos d) xs) i.0 (subst (λ m. q m (pos d) rest) (sym there) w.4) in
          or_right _ _ (and_from _ _ (lt-ltb c d lt) (and_from _ _
          (f c (omega arith) ∙ and_from _ _ is aborted) ((o (c + 1) d (omega arith) to).1 goes)))
    ],
  )

  terminal_means : (spot : tree.Spot) (p : ℕ) (t : Term) (truths : List Bool)
      → ((c : ℕ) → c < n → entry truths c ≡ takes_at p t v items c) → (c d : ℕ) → c ≤ d → d ≤ n
      → ((nat_eq d (c + 1) && entry truths c) ≡ true)
      ↔ Derives (tree.Terminal spot p t) v (pos c) (pos d) (between items c d)
  terminal_means spot p t truths f c d le to = (
    λ h.
        let w = and_parts (nat_eq d (c + 1)) (entry truths c) h in
        let next_one : d ≡ c + 1 = eqb-true d (c + 1) w.0 in
        let u = and_parts (is_take p (slice_get items c)) (holds t (slice_index v (pos c)))
        (sym (f c (omega arith)) ∙ w.1) in
        let one = one_between 0 items c (Take p) (take_told p (slice_get items c) u.0) in
        (ap pos next_one ∙ one.1, u.1, ap (between items c) next_one ∙ one.0),
    λ h.
        let lt : c < d = some_more c d (Take p) [] to h.2 in
        let l : length (between items c d) ≡ d - c = between_length items c d to in
        let z : length (between items c d) ≡ 1 = ap length h.2 in
        let i = rest_is c d (Take p) [] lt to h.2 in
        and_from _ _ (eq-eqb d (c + 1) (omega arith))
        (f c (omega arith) ∙ and_from _ _ (ap (is_take p) i.2 ∙ eq-eqb p p refl) h.1),
  )

  empty_means : (c d : ℕ) → c ≤ d → d ≤ n
      → (nat_eq c d ≡ true) ↔ ((pos c ≡ pos d) × (between items c d ≡ []))
  empty_means c d le to = (
    λ h. same_place c d (eqb-true c d h),
    λ h. eq-eqb c d (none_same c d le to h.1),
  )

  swap : {P : Type 0} {b c : Bool} → b ≡ c → ((c ≡ true) ↔ P) → (b ≡ true) ↔ P
  swap e p = (λ h. p.0 (sym e ∙ h), λ h. e ∙ p.1 h)

  pub step_reads : (e : Tree) (s : Step) (t : Chart) → IsReadStep v items node e s → IsCovers s n t.covers
      → IsFires s n t.covers t.fires → Reads v items node e t
  step_reads (tree.Empty at) step.Empty t d h k = record {
    covers = λ c d le to. swap (h.entries c d le to) (empty_means c d le to);
    ends = λ c d le to. swap (k.entries c d le to) (λ f. false≢true f, λ f. absurd f);
  }
  step_reads (tree.Action at b) (step.Action asked) t a h k = record {
    covers = λ c d le to. swap (h.entries c d le to) (empty_means c d le to);
    ends = λ c d le to. swap (k.entries c d le to) (
      λ f.
          let w = and_parts asked (nat_eq c d) f in
          let s = (empty_means c d le to).0 w.1 in
          (s.0, s.1, sym (eqb-true at.number node (sym a ∙ w.0))),
      λ f. and_from _ _ (a ∙ eq-eqb at.number node (sym f.2)) ((empty_means c d le to).1 (f.0, f.1)),
    );
  }
  step_reads (tree.Terminal at p b) (step.Terminal truths) t f h k = record {
    covers = λ c d le to. swap (h.entries c d le to) (terminal_means at p b truths f c d le to);
    ends = λ c d le to. swap (k.entries c d le to) (λ f. false≢true f, λ f. absurd f);
  }
  step_reads (tree.Seq at e f) (step.Seq a b) t d h k =
      let p : Reads v items node e a.now = d.0 in
      let q : Reads v items node f b.now = d.1 in
      record {
        covers = λ c d le to. swap (h.entries c d le to)
            (joint_means e a.now.covers b.now.covers (Derives f v) p.covers q.covers c d le to);
        ends = λ c d le to. swap (k.entries c d le to) (
          λ o. or_elim _ _ o (λ l. inl ((p.ends c d le to).0 l))
              (λ l. inr ((joint_means e a.now.covers b.now.fires (λ i j xs. Ends f v i j xs node) p.covers q.ends c d
              le to).0 l)),
          λ o. elim o [
            | inl l ↦ or_left _ _ ((p.ends c d le to).1 l)
            | inr l ↦ or_right _ _ ((joint_means e a.now.covers b.now.fires (λ i j xs. Ends f v i j xs node)
                p.covers q.ends c d le to).1 l)
          ],
        );
      }
  step_reads (tree.Choice at e f) (step.Choice a b) t d h k =
      let p : Reads v items node e a.now = d.0 in
      let q : Reads v items node f b.now = d.1 in
      record {
        covers = λ c d le to. swap (h.entries c d le to)
            (or_means a.now.covers b.now.covers (Derives e v) (Derives f v) p.covers q.covers c d le to);
        ends = λ c d le to. swap (k.entries c d le to)
            (or_means a.now.fires b.now.fires (λ i j xs. Ends e v i j xs node) (λ i j xs. Ends f v i j xs node)
            p.ends q.ends c d le to);
      }
  step_reads (tree.Star at e) (step.Star a) t d h k =
      let p : Reads v items node e a.now = d in
      let own : Means t.covers (Derives (tree.Star at e) v) = λ c d le to. (
        λ o. star_to e a.now.covers t.covers p.covers h.entries (d - c) c d (omega arith) le to o,
        λ o. star_from e a.now.covers t.covers p.covers h.entries (pos c) (pos d) (between items c d) o c d le to refl
            refl refl,
      ) in
      record {
        covers = own;
        ends = λ c d le to. swap (k.entries c d le to)
            (joint_means (tree.Star at e) t.covers a.now.fires (λ i j xs. Ends e v i j xs node) own p.ends c d le to);
      }
  step_reads (tree.Hold at b e) (step.Hold truths a) t d h k =
      let p : Reads v items node e a.now = d.1 in
      record {
        covers = λ c d' le to. swap (h.entries c d' le to)
            (hold_means b truths a.now.covers (Derives e v) d.0 p.covers c d' le to);
        ends = λ c d' le to. swap (k.entries c d' le to)
            (hold_means b truths a.now.fires (λ i j xs. Ends e v i j xs node) d.0 p.ends c d' le to);
      }
  step_reads _ _ t d h k = absurd d

  pub scope_reads : (spot : tree.Spot) (s : ℕ) (e x h : Tree) (cuts : List Bool) (body after t : Chart)
      → ((c : ℕ) → c < n → entry cuts c ≡ cuts_at s e x v items c) → Reads v items node e body
      → Reads v items node h after
      → ((c d : ℕ) → c ≤ d → d ≤ n → at n t.covers c d ≡ scoped e x v items cuts body.covers after.covers c d)
      → ((c d : ℕ) → c ≤ d → d ≤ n → at n t.fires c d ≡ scoped e x v items cuts body.fires after.fires c d)
      → Reads v items node (tree.Scope spot s e x h) t
  scope_reads spot s e x h cuts body after t f p q a b = record {
    covers = λ c d le to. swap (a c d le to)
        (scoped_means s e x cuts body.covers after.covers (Derives e v) (Derives h v) f p.covers q.covers c d le to);
    ends = λ c d le to. swap (b c d le to)
        (scoped_means s e x cuts body.fires after.fires (λ i j xs. Ends e v i j xs node)
        (λ i j xs. Ends h v i j xs node) f p.ends q.ends c d le to);
  }
