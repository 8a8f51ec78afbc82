-- Items determine positions.
use Rattle.std.proofs.Common.{◌≡◌, ℕ, zero, suc, ◌+◌, ◌-◌, ◌<◌, ◌≤◌, true, nat_eq, nat_lt, inl, inr}
use Rattle.std.proofs.Common.{List, [], ◌∷◌, ◌++◌, length, Some, refl, sym, ap, ◌∙◌, arith}
use Rattle.std.specs.Prelude.{slice_get, take, drop}
use Rattle.std.proofs.lemmas.Bool.{and_parts, and_from, eqb-true, eq-eqb, ltb-true, lt-ltb, cases_lt}
use Rattle.std.proofs.lemmas.List.{length-append, take_at, drop_at}
use Rattle.pbs_ast.specs.Trees.{Tree, Empty, Terminal, Action, Seq, Choice, Star, Hold, Scope}
use Rattle.pbs_explain.specs.declared.derivation.Item.{Item}
use Rattle.pbs_explain.specs.declared.derivation.Item.TheVariants.{Take, Cut}
use Rattle.pbs_explain.specs.Explained.{Turns, no_turn, one_more, Derives, Ends}
use Rattle.pbs_explain.specs.inner.Checked.{next, moved, leads, reached, between}

-- Lists that lead from one position to another.

pub leads_moved : (i : ℕ) (xs : List Item) (n : ℕ) → leads i xs n ≡ true → moved i xs ≡ n
leads_moved i [] n h = eqb-true i n h
leads_moved i (x ∷ xs) n h = leads_moved (next i x) xs n (and_parts _ _ h).1

-- each item moves by one position at least
pub leads_far : (i : ℕ) (xs : List Item) (n : ℕ) → leads i xs n ≡ true → i + length xs ≤ n
leads_far i [] n h = let e : i ≡ n = eqb-true i n h in omega arith
leads_far i (x ∷ xs) n h =
    let p = and_parts (nat_lt i (next i x)) (leads (next i x) xs n) h in
    let a : i < next i x = ltb-true i (next i x) p.0 in
    let b : next i x + length xs ≤ n = leads_far (next i x) xs n p.1 in
    omega arith

pub leads_none : (i j : ℕ) (xs : List Item) → i ≡ j → xs ≡ [] → leads i xs j ≡ true
leads_none i j xs e none = ap (λ ys. leads i ys j) none ∙ eq-eqb i j e

pub leads_on : (i : ℕ) (xs ys : List Item) (m n : ℕ) → leads i xs m ≡ true → leads m ys n ≡ true
    → leads i (xs ++ ys) n ≡ true
leads_on i [] ys m n h k = ap (λ i. leads i ys n) (eqb-true i m h) ∙ k
leads_on i (x ∷ xs) ys m n h k =
    let p = and_parts (nat_lt i (next i x)) (leads (next i x) xs m) h in
    and_from _ _ p.0 (leads_on (next i x) xs ys m n p.1 k)

leads_turns : (turn : ℕ → ℕ → List Item → Type 0) → ((i j : ℕ) (xs : List Item) → turn i j xs → leads i xs j ≡ true)
    → (i j : ℕ) (xs : List Item) → Turns turn i j xs → leads i xs j ≡ true
leads_turns turn f _ _ _ (no_turn {i = i}) = eq-eqb i i refl
leads_turns turn f _ _ _ (one_more {i = i} {m = m} {j = j} {front = front} {rest = rest} lt le here more) =
    leads_on i front rest m j (f i m front here) (leads_turns turn f m j rest more)

leads_take : (i j p : ℕ) (xs : List Item) → j ≡ i + 1 → xs ≡ Take p ∷ [] → leads i xs j ≡ true
leads_take i j p xs e one =
    ap (λ ys. leads i ys j) one
    ∙ and_from (nat_lt i (i + 1)) (nat_eq (i + 1) j) (lt-ltb i (i + 1) (omega arith)) (eq-eqb (i + 1) j (sym e))

leads_cut : (i j s m : ℕ) (xs rest : List Item) → i < m → leads m rest j ≡ true → xs ≡ Cut s m ∷ rest
    → leads i xs j ≡ true
leads_cut i j s m xs rest low more one =
    ap (λ ys. leads i ys j) one ∙ and_from (nat_lt i m) (leads m rest j) (lt-ltb i m low) more

-- what is derived leads from its start to its end
pub derives_leads : (e : Tree) (v : List ℕ) (i j : ℕ) (xs : List Item) → Derives e v i j xs → leads i xs j ≡ true
derives_leads (Empty at) v i j xs d = leads_none i j xs d.0 d.1
derives_leads (Action at a) v i j xs d = leads_none i j xs d.0 d.1
derives_leads (Terminal at p t) v i j xs d = leads_take i j p xs d.0 d.2
derives_leads (Seq at e f) v i j xs d =
    ap (λ ys. leads i ys j) d.7
    ∙ leads_on i d.1 d.2 d.0 j (derives_leads e v i d.0 d.1 d.5) (derives_leads f v d.0 j d.2 d.6)
derives_leads (Choice at e f) v i j xs d = elim d [
  | inl l ↦ derives_leads e v i j xs l
  | inr r ↦ derives_leads f v i j xs r
]
derives_leads (Star at e) v i j xs d = leads_turns (Derives e v) (derives_leads e v) i j xs d
derives_leads (Hold at t e) v i j xs d = derives_leads e v i j xs d.0
derives_leads (Scope at s e x h) v i j xs d = elim d [
  | inl l ↦ derives_leads e v i j xs l.1
  | inr r ↦ leads_cut i j s r.0 xs r.1 r.3.0 (derives_leads h v r.0 j r.1 r.4) r.5
]

pub ends_leads : (e : Tree) (v : List ℕ) (i j : ℕ) (xs : List Item) (node : ℕ) → Ends e v i j xs node
    → leads i xs j ≡ true
ends_leads (Empty at) v i j xs node d = absurd d
ends_leads (Action at a) v i j xs node d = leads_none i j xs d.0 d.1
ends_leads (Terminal at p t) v i j xs node d = absurd d
ends_leads (Seq at e f) v i j xs node d = elim d [
  | inl l ↦ ends_leads e v i j xs node l
  | inr r ↦ ap (λ ys. leads i ys j) r.7
      ∙ leads_on i r.1 r.2 r.0 j (derives_leads e v i r.0 r.1 r.5) (ends_leads f v r.0 j r.2 node r.6)
]
ends_leads (Choice at e f) v i j xs node d = elim d [
  | inl l ↦ ends_leads e v i j xs node l
  | inr r ↦ ends_leads f v i j xs node r
]
ends_leads (Star at e) v i j xs node d =
    ap (λ ys. leads i ys j) d.7
    ∙ leads_on i d.1 d.2 d.0 j (derives_leads (Star at e) v i d.0 d.1 d.5) (ends_leads e v d.0 j d.2 node d.6)
ends_leads (Hold at t e) v i j xs node d = ends_leads e v i j xs node d.0
ends_leads (Scope at s e x h) v i j xs node d = elim d [
  | inl l ↦ ends_leads e v i j xs node l.1
  | inr r ↦ leads_cut i j s r.0 xs r.1 r.3.0 (ends_leads h v r.0 j r.1 node r.4) r.5
]

-- Parts of a list.

pub between_none : (xs : List Item) (c d : ℕ) → d ≤ c → between xs c d ≡ []
between_none [] c d h = refl
between_none (x ∷ xs) zero zero h = refl
between_none (x ∷ xs) zero (suc d) h = absurd (omega arith)
between_none (x ∷ xs) (suc c) zero h = refl
between_none (x ∷ xs) (suc c) (suc d) h = between_none xs c d (omega arith)

pub between_length : (xs : List Item) (c d : ℕ) → d ≤ length xs → length (between xs c d) ≡ d - c
between_length [] c d h = omega arith
between_length (x ∷ xs) zero zero h = refl
between_length (x ∷ xs) zero (suc d) h = let r : length (between xs 0 d) ≡ d - 0 = between_length xs 0 d (omega arith) in omega arith
between_length (x ∷ xs) (suc c) zero h = omega arith
between_length (x ∷ xs) (suc c) (suc d) h = let r : length (between xs c d) ≡ d - c = between_length xs c d (omega arith) in omega arith

pub between_on : (xs : List Item) (c m d : ℕ) → c ≤ m → m ≤ d → between xs c m ++ between xs m d ≡ between xs c d
between_on [] c m d p q = refl
between_on (x ∷ xs) zero zero d p q = refl
between_on (x ∷ xs) zero (suc m) zero p q = absurd (omega arith)
between_on (x ∷ xs) zero (suc m) (suc d) p q = ap (λ ys. x ∷ ys) (between_on xs 0 m d (omega arith) (omega arith))
between_on (x ∷ xs) (suc c) zero d p q = absurd (omega arith)
between_on (x ∷ xs) (suc c) (suc m) zero p q = absurd (omega arith)
between_on (x ∷ xs) (suc c) (suc m) (suc d) p q = between_on xs c m d (omega arith) (omega arith)

pub between_all : (xs : List Item) → between xs 0 (length xs) ≡ xs
between_all [] = refl
between_all (x ∷ xs) = ap (λ ys. x ∷ ys) (between_all xs)

-- where two lists make up a part, they are parts themselves
pub between_split : (xs : List Item) (c d : ℕ) (front rest : List Item) → c ≤ d → d ≤ length xs
    → between xs c d ≡ front ++ rest
    → (c + length front ≤ d) × (front ≡ between xs c (c + length front)) × (rest ≡ between xs (c + length front) d)
between_split xs c d front rest le to e =
    let k = c + length front in
    let whole : length (between xs c d) ≡ d - c = between_length xs c d to in
    let parts : length (between xs c d) ≡ length front + length rest = ap length e ∙ length-append front rest in
    let high : c + length front ≤ d = omega arith in
    let own : length (between xs c k) ≡ c + length front - c = between_length xs c k (omega arith) in
    let same : between xs c k ++ between xs k d ≡ front ++ rest = between_on xs c k d (omega arith) high ∙ e in
    let n : length (between xs c k) ≡ length front = omega arith in (
      high,
      sym (take_at front rest (length front) refl) ∙ (ap (take (length front)) (sym same)
          ∙ take_at (between xs c k) (between xs k d) (length front) n),
      sym (drop_at front rest (length front) refl) ∙ (ap (drop (length front)) (sym same)
          ∙ drop_at (between xs c k) (between xs k d) (length front) n),
    )

pub reached_zero : (i : ℕ) (xs : List Item) → reached i xs 0 ≡ i
reached_zero i [] = refl
reached_zero i (x ∷ xs) = refl

-- an item, and what it makes of the position
one_after : (i : ℕ) (xs : List Item) (c : ℕ) (x : Item) → slice_get xs c ≡ Some x
    → (between xs c (suc c) ≡ x ∷ []) × (reached i xs (suc c) ≡ next (reached i xs c) x)
one_after i [] c x h = search
one_after i (y ∷ xs) zero x h =
    let same : y ≡ x = search in (
      ap (λ ys. y ∷ ys) (between_none xs 0 0 (omega arith)) ∙ ap (λ z. z ∷ []) same,
      reached_zero (next i y) xs ∙ ap (next i) same,
    )
one_after i (y ∷ xs) (suc c) x h = one_after (next i y) xs c x h

pub one_between : (i : ℕ) (xs : List Item) (c : ℕ) (x : Item) → slice_get xs c ≡ Some x
    → (between xs c (c + 1) ≡ x ∷ []) × (reached i xs (c + 1) ≡ next (reached i xs c) x)
one_between i xs c x h =
    let e : c + 1 ≡ suc c = omega arith in
    let w = one_after i xs c x h in
    (ap (between xs c) e ∙ w.0, ap (reached i xs) e ∙ w.1)

pub head_between : (xs : List Item) (c d : ℕ) (x : Item) (rest : List Item) → between xs c d ≡ x ∷ rest
    → slice_get xs c ≡ Some x
head_between [] c d x rest h = search
head_between (y ∷ xs) zero zero x rest h = search
head_between (y ∷ xs) zero (suc d) x rest h = search
head_between (y ∷ xs) (suc c) zero x rest h = search
head_between (y ∷ xs) (suc c) (suc d) x rest h = head_between xs c d x rest h

-- Positions of items.

pub reached_moved : (i : ℕ) (xs : List Item) (c d : ℕ) → c ≤ d
    → moved (reached i xs c) (between xs c d) ≡ reached i xs d
reached_moved i [] c d le = refl
reached_moved i (x ∷ xs) zero zero le = refl
reached_moved i (x ∷ xs) zero (suc d) le =
    ap (λ k. moved k (between xs 0 d)) (sym (reached_zero (next i x) xs))
    ∙ reached_moved (next i x) xs 0 d (omega arith)
reached_moved i (x ∷ xs) (suc c) zero le = absurd (omega arith)
reached_moved i (x ∷ xs) (suc c) (suc d) le = reached_moved (next i x) xs c d (omega arith)

reached_low : (i : ℕ) (xs : List Item) (n d : ℕ) → leads i xs n ≡ true → i ≤ reached i xs d
reached_low i [] n d h = omega arith
reached_low i (x ∷ xs) n zero h = omega arith
reached_low i (x ∷ xs) n (suc d) h =
    let p = and_parts (nat_lt i (next i x)) (leads (next i x) xs n) h in
    let a : i < next i x = ltb-true i (next i x) p.0 in
    let b : next i x ≤ reached (next i x) xs d = reached_low (next i x) xs n d p.1 in
    omega arith

pub reached_rises : (i : ℕ) (xs : List Item) (n c d : ℕ) → leads i xs n ≡ true → c < d → d ≤ length xs
    → reached i xs c < reached i xs d
reached_rises i [] n c d h lt to = absurd (omega arith)
reached_rises i (x ∷ xs) n zero zero h lt to = absurd (omega arith)
reached_rises i (x ∷ xs) n zero (suc d) h lt to =
    let p = and_parts (nat_lt i (next i x)) (leads (next i x) xs n) h in
    let a : i < next i x = ltb-true i (next i x) p.0 in
    let b : next i x ≤ reached (next i x) xs d = reached_low (next i x) xs n d p.1 in
    omega arith
reached_rises i (x ∷ xs) n (suc c) zero h lt to = absurd (omega arith)
reached_rises i (x ∷ xs) n (suc c) (suc d) h lt to =
    let p = and_parts (nat_lt i (next i x)) (leads (next i x) xs n) h in
    reached_rises (next i x) xs n c d p.1 (omega arith) (omega arith)

pub reached_end : (i : ℕ) (xs : List Item) (n : ℕ) → leads i xs n ≡ true → reached i xs (length xs) ≡ n
reached_end i [] n h = eqb-true i n h
reached_end i (x ∷ xs) n h = reached_end (next i x) xs n (and_parts _ _ h).1

pub reached_order : (i : ℕ) (xs : List Item) (n c d : ℕ) → leads i xs n ≡ true → c ≤ d → d ≤ length xs
    → reached i xs c ≤ reached i xs d
reached_order i xs n c d h le to = elim (cases_lt c d) [
  | inl lt ↦ let r : reached i xs c < reached i xs d = reached_rises i xs n c d h lt to in omega arith
  | inr ge ↦
      let same : c ≡ d = omega arith in
      let r : reached i xs c ≡ reached i xs d = ap (reached i xs) same in
      omega arith
]

pub reached_within : (i : ℕ) (xs : List Item) (n c : ℕ) → leads i xs n ≡ true → c ≤ length xs → reached i xs c ≤ n
reached_within i xs n c h le =
    let a : reached i xs c ≤ reached i xs (length xs) = reached_order i xs n c (length xs) h le (omega arith) in
    let b : reached i xs (length xs) ≡ n = reached_end i xs n h in
    omega arith
