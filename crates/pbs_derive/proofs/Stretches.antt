-- A derivation goes forward, and it is alive before each position that it reaches.
use Rattle.std.proofs.Common.{◌≡◌, ℕ, zero, suc, ◌+◌, ◌-◌, ◌<◌, ◌≤◌, true, ◌&&◌, List, inl, inr, refl, arith}
use Rattle.std.proofs.lemmas.Bool.{and_parts, and_from, eqb-true, eq-eqb, cases_lt, or_left, or_right}
use Rattle.pbs_ast.specs.Trees.{Spot, Tree, Empty, Terminal, Action, Seq, Choice, Star, Hold, Scope}
use Rattle.pbs_derive.specs.Derivations.{covers, alive, trips, repeats}
use Rattle.pbs_derive.proofs.Positions.{split_to, split_from, or_elim, after_to, first_to, first_from, none_to}
use Rattle.pbs_derive.proofs.Positions.{none_from, all_hold_to, all_hold_from}
use Rattle.pbs_derive.proofs.Repeats.{Repeats, repeats_first, repeats_none, repeats_order, repeats_from}

-- what is covered doesn't end before it begins
pub covers_order : (e : Tree) (v : List ℕ) (i j : ℕ) → covers e v i j ≡ true → i ≤ j
covers_order (Empty spot) v i j h = let q : i ≡ j = eqb-true i j h in omega arith
covers_order (Action spot a) v i j h = let q : i ≡ j = eqb-true i j h in omega arith
covers_order (Terminal spot p t) v i j h =
    let q : j ≡ i + 1 = eqb-true j (i + 1) (and_parts _ _ h).0 in omega arith
covers_order (Seq spot e f) v i j h =
    let w = split_to i j (covers e v i) (λ m. covers f v m j) h in
    let low : i ≤ w.0 = w.1 in let high : w.0 ≤ j = w.2 in omega arith
covers_order (Choice spot e f) v i j h = or_elim _ _ h (covers_order e v i j) (covers_order f v i j)
covers_order (Star spot e) v i j h = repeats_order (covers e v) (j - i) i j h
covers_order (Hold spot t e) v i j h = covers_order e v i j (and_parts _ _ h).0
covers_order (Scope spot s e x h) v i j c =
    or_elim _ _ c
    (λ body. covers_order e v i j (and_parts _ _ body).1)
    (λ after.
    let w = first_to i j (trips e x v i) (λ m. covers h v m j) after in
    let low : i < w.0 = w.1 in let high : w.0 ≤ j = w.2 in omega arith)

-- where stretches that follow one another lead past k, the one that k lies in is alive at k
pub star_alive : (e : Tree) (v : List ℕ) → ((i j k : ℕ) → covers e v i j ≡ true → i ≤ k → k < j → alive e v i k ≡ true)
    → (n i j k : ℕ) → repeats (covers e v) n i j ≡ true → i ≤ k → k < j
    → (m : ℕ) × (i ≤ m) × (m ≤ k) × Repeats (covers e v) i m × (alive e v m k ≡ true)
star_alive e v f zero i j k r low high = let q : i ≡ j = eqb-true i j r in absurd (omega arith)
star_alive e v f (suc n) i j k r low high =
    or_elim _ _ r
    (λ same. let q : i ≡ j = eqb-true i j same in absurd (omega arith))
    (λ more.
    let w = after_to i j (λ m. covers e v i m && repeats (covers e v) n m j) more in
    let p = and_parts _ _ w.3 in
    elim (cases_lt k w.0) [
      | inl before ↦ (i, omega arith, low, (0, repeats_none (covers e v) 0 i i refl), f i w.0 k p.0 low before)
      | inr later ↦
          let l = star_alive e v f n w.0 j k p.1 later high in
          let a : i < w.0 = w.1 in let b : w.0 ≤ l.0 = l.1 in
          (l.0, omega arith, l.2, (suc l.3.0, repeats_first (covers e v) l.3.0 i w.0 l.0 w.1 l.1 p.0 l.3.1), l.4)
    ])

abbrev pub star_from : (spot : Spot) → (e : Tree) (v : List ℕ) (i k : ℕ) → (m : ℕ) × (i ≤ m) × (m ≤ k)
    × Repeats (covers e v) i m × (alive e v m k ≡ true) → alive (Star spot e) v i k ≡ true
star_from spot e v i k w =
    split_from i k (covers (Star spot e) v i) (λ m. alive e v m k) w.0 w.1 w.2 (repeats_from (covers e v) i w.0 w.3) w.4

-- a derivation that reaches j was alive before, and so was one that is alive
pub lasts : (e : Tree) (v : List ℕ)
    → ((i j k : ℕ) → covers e v i j ≡ true → i ≤ k → k < j → alive e v i k ≡ true)
    × ((i k n : ℕ) → alive e v i k ≡ true → i ≤ n → n ≤ k → alive e v i n ≡ true)
lasts (Empty spot) v = (
  λ i j k h low high. let q : i ≡ j = eqb-true i j h in
      absurd (omega arith),
  λ i k n h low high. h,
)
lasts (Action spot a) v = (
  λ i j k h low high. let q : i ≡ j = eqb-true i j h in
      absurd (omega arith),
  λ i k n h low high. h,
)
lasts (Terminal spot p t) v = (
  λ i j k h low high. let q : j ≡ i + 1 = eqb-true j (i + 1) (and_parts _ _ h).0 in eq-eqb k i (omega arith),
  λ i k n h low high. let q : k ≡ i = eqb-true k i h in eq-eqb n i (omega arith),
)
lasts (Seq spot e f) v = (
  λ i j k h low high.
      let w = split_to i j (covers e v i) (λ m. covers f v m j) h in
      elim (cases_lt k w.0) [
        | inl before ↦ or_left _ _ ((lasts e v).0 i w.0 k w.3 low before)
        | inr later ↦ or_right _ _ (split_from i k (covers e v i) (λ m. alive f v m k) w.0 w.1 later w.3
            ((lasts f v).0 w.0 j k w.4 later high))
      ],
  λ i k n h low high.
      or_elim _ _ h
      (λ left. or_left _ _ ((lasts e v).1 i k n left low high))
      (λ right.
      let w = split_to i k (covers e v i) (λ m. alive f v m k) right in
      elim (cases_lt n w.0) [
        | inl before ↦ or_left _ _ ((lasts e v).0 i w.0 n w.3 low before)
        | inr later ↦ or_right _ _ (split_from i n (covers e v i) (λ m. alive f v m n) w.0 w.1 later w.3
            ((lasts f v).1 w.0 k n w.4 later high))
      ]),
)
lasts (Choice spot e f) v = (
  λ i j k h low high. or_elim _ _ h (λ l. or_left _ _ ((lasts e v).0 i j k l low high))
      (λ r. or_right _ _ ((lasts f v).0 i j k r low high)),
  λ i k n h low high. or_elim _ _ h (λ l. or_left _ _ ((lasts e v).1 i k n l low high))
      (λ r. or_right _ _ ((lasts f v).1 i k n r low high)),
)
lasts (Star spot e) v = (
  λ i j k h low high. star_from spot e v i k (star_alive e v (lasts e v).0 (j - i) i j k h low high),
  λ i k n h low high.
      let w = split_to i k (covers (Star spot e) v i) (λ m. alive e v m k) h in
      star_from spot e v i n (elim (cases_lt n w.0) [
        | inl before ↦ star_alive e v (lasts e v).0 (w.0 - i) i w.0 n w.3 low before
        | inr later ↦ (w.0, w.1, later, (w.0 - i, w.3), (lasts e v).1 w.0 k n w.4 later high)
      ]),
)
lasts (Hold spot t e) v = (
  λ i j k h low high.
      let p = and_parts _ _ h in
      and_from _ _ ((lasts e v).0 i j k p.0 low high)
      (all_hold_from t v i k (λ m a b. all_hold_to t v i j p.1 m a (omega arith))),
  λ i k n h low high.
      let p = and_parts _ _ h in
      and_from _ _ ((lasts e v).1 i k n p.0 low high)
      (all_hold_from t v i n (λ m a b. all_hold_to t v i k p.1 m a (omega arith))),
)
lasts (Scope spot s e x h) v = (
  λ i j k c low high.
      or_elim _ _ c
      (λ body.
      let p = and_parts _ _ body in
      or_left _ _ (and_from _ _
      (none_from i k (trips e x v i) (λ m a b. none_to i j (trips e x v i) p.0 m a (omega arith)))
      ((lasts e v).0 i j k p.1 low high)))
      (λ after.
      let w = first_to i j (trips e x v i) (λ m. covers h v m j) after in
      let a : i < w.0 = w.1 in
      elim (cases_lt k w.0) [
        | inl before ↦ or_left _ _ (and_from _ _
            (none_from i k (trips e x v i) (λ m low' high'. w.4 m low' (omega arith)))
            ((lasts e v).1 i (w.0 - 1) k (and_parts _ _ w.3).1 low
            (omega arith)))
        | inr later ↦ or_right _ _ (first_from i k (trips e x v i) (λ m. alive h v m k) w.0 w.1 later w.3 w.4
            ((lasts h v).0 w.0 j k w.5 later high))
      ]),
  λ i k n c low high.
      or_elim _ _ c
      (λ body.
      let p = and_parts _ _ body in
      or_left _ _ (and_from _ _
      (none_from i n (trips e x v i) (λ m a b. none_to i k (trips e x v i) p.0 m a (omega arith)))
      ((lasts e v).1 i k n p.1 low high)))
      (λ after.
      let w = first_to i k (trips e x v i) (λ m. alive h v m k) after in
      let a : i < w.0 = w.1 in
      elim (cases_lt n w.0) [
        | inl before ↦ or_left _ _ (and_from _ _
            (none_from i n (trips e x v i) (λ m low' high'. w.4 m low' (omega arith)))
            ((lasts e v).1 i (w.0 - 1) n (and_parts _ _ w.3).1 low
            (omega arith)))
        | inr later ↦ or_right _ _ (first_from i n (trips e x v i) (λ m. alive h v m n) w.0 w.1 later w.3 w.4
            ((lasts h v).1 w.0 k n w.5 later high))
      ]),
)
