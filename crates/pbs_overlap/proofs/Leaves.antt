-- In a numbered tree the scopes round a node are those in whose ranges its number lies.
use Rattle.std.proofs.Common.{◌≡◌, ℕ, ◌+◌, ◌-◌, ◌<◌, ◌≤◌, true, cond, inl, inr, [], ◌∷◌, ◌++◌}
use Rattle.std.proofs.Common.{length, get_or, refl, sym, ◌∙◌, ap, subst, arith, length-append}
use Rattle.std.specs.Prelude.{nat_eq, nat_lt}
use Rattle.std.proofs.lemmas.Bool.{and_parts, eqb-true, ne_eqb, lt-ltb, le-ltb, cases_lt, cond-true, cond-false}
use Rattle.std.proofs.lemmas.List.{get_or_append_left, get_or-append_right}
use Rattle.pbs_ast.specs.Trees.{Spot, Tree, Empty, Terminal, Action, Seq, Choice, Star, Hold, Scope}
use Rattle.pbs_ast.specs.Sound.{visit_count, place_count, scope_count}
use Rattle.pbs_edges.specs.Edges.{Body, Trap}
use Rattle.pbs_edges.specs.inner.Rounds.{place_rounds, node_rounds}
use Rattle.pbs_edges.proofs.Numbering.{numbered}
use Rattle.pbs_edges.proofs.Rounds.{pair_parts, scope_parts}
use Rattle.pbs_overlap.specs.Ranges.{number_of, leaves, ranges}

pub own_number : (e : Tree) (n b s : ℕ) → numbered e n b s ≡ true → number_of e ≡ n
own_number (Empty at) n b s g = eqb-true at.number n g
own_number (Terminal at p t) n b s g = eqb-true at.number n (and_parts (nat_eq at.number n) (nat_eq p b) g).0
own_number (Action at a) n b s g = eqb-true at.number n g
own_number (Seq at e f) n b s g = (pair_parts at e f n b s g).own
own_number (Choice at e f) n b s g = (pair_parts at e f n b s g).own
own_number (Star at e) n b s g = eqb-true at.number n (and_parts (nat_eq at.number n) (numbered e (n + 1) b s) g).0
own_number (Hold at t e) n b s g = eqb-true at.number n (and_parts (nat_eq at.number n) (numbered e (n + 1) b s) g).0
own_number (Scope at r e x h) n b s g = (scope_parts at r e x h n b s g).own

pub length-leaves : (e : Tree) → length (leaves e) ≡ place_count e
length-leaves (Empty at) = refl
length-leaves (Terminal at p t) = refl
length-leaves (Action at a) = refl
length-leaves (Seq at e f) =
    let a = length-leaves e in let b = length-leaves f in let c = length-append (leaves e) (leaves f) in omega arith
length-leaves (Choice at e f) =
    let a = length-leaves e in let b = length-leaves f in let c = length-append (leaves e) (leaves f) in omega arith
length-leaves (Star at e) = length-leaves e
length-leaves (Hold at t e) = length-leaves e
length-leaves (Scope at s e x h) =
    let a = length-leaves e in let b = length-leaves x in let c = length-leaves h in
    let d = length-append (leaves e) (leaves x ++ leaves h) in
    let f = length-append (leaves x) (leaves h) in omega arith

pub length-ranges : (e : Tree) → length (ranges e) ≡ scope_count e
length-ranges (Empty at) = refl
length-ranges (Terminal at p t) = refl
length-ranges (Action at a) = refl
length-ranges (Seq at e f) =
    let a = length-ranges e in let b = length-ranges f in let c = length-append (ranges e) (ranges f) in omega arith
length-ranges (Choice at e f) =
    let a = length-ranges e in let b = length-ranges f in let c = length-append (ranges e) (ranges f) in omega arith
length-ranges (Star at e) = length-ranges e
length-ranges (Hold at t e) = length-ranges e
length-ranges (Scope at s e x h) =
    let a = length-ranges e in let b = length-ranges x in let c = length-ranges h in
    let d = length-append (ranges e) (ranges x ++ ranges h) in
    let f = length-append (ranges x) (ranges h) in omega arith

-- The places

-- what a place's leaf tells: its number is one of the tree's, and the scopes round it are those round the place
pub record AtLeaf (e : Tree) (n b i : ℕ) : Type 0 where
  pub low : n ≤ get_or (leaves e) i 0
  pub high : get_or (leaves e) i 0 < n + visit_count e
  pub rounds : place_rounds e b (b + i) ≡ node_rounds e n (get_or (leaves e) i 0)

-- the node isn't the tree's own, and lies in the first of two parts, or after it
deeper : {A : Type 0} (m n k : ℕ) (own x y z : A) → n + 1 ≤ m → m < k → z ≡ x
    → z ≡ cond (nat_eq m n) own (cond (nat_lt m k) x y)
deeper m n k own x y z low high e =
    e ∙ sym (cond-false (nat_eq m n) own (cond (nat_lt m k) x y) (ne_eqb m n (λ q. omega arith))
    ∙ cond-true (nat_lt m k) x y (lt-ltb m k high))

later : {A : Type 0} (m n k : ℕ) (own x y z : A) → n + 1 ≤ m → k ≤ m → z ≡ y
    → z ≡ cond (nat_eq m n) own (cond (nat_lt m k) x y)
later m n k own x y z low high e =
    e ∙ sym (cond-false (nat_eq m n) own (cond (nat_lt m k) x y) (ne_eqb m n (λ q. omega arith))
    ∙ cond-false (nat_lt m k) x y (le-ltb m k high))

alone : {A : Type 0} (m n : ℕ) (own x z : A) → n + 1 ≤ m → z ≡ x → z ≡ cond (nat_eq m n) own x
alone m n own x z low e = e ∙ sym (cond-false (nat_eq m n) own x (ne_eqb m n (λ q. omega arith)))

-- the place lies in the first part, or after it
in_front : {A : Type 0} (b i k : ℕ) (x y z : A) → i < k → x ≡ z → cond (nat_lt (b + i) (b + k)) x y ≡ z
in_front b i k x y z l e = cond-true (nat_lt (b + i) (b + k)) x y (lt-ltb (b + i) (b + k) (omega arith)) ∙ e

in_rest : {A : Type 0} (p k : ℕ) (x y z : A) → k ≤ p → y ≡ z → cond (nat_lt p k) x y ≡ z
in_rest p k x y z l e = cond-false (nat_lt p k) x y (le-ltb p k l) ∙ e

module _ (at : Spot) (e f : Tree) (n b s i : ℕ) (l : i < place_count e + place_count f) where
  pair_leaf : (i < place_count e → AtLeaf e (n + 1) b i)
      → (place_count e ≤ i → AtLeaf f (n + 1 + visit_count e) (b + place_count e) (i - place_count e))
      → AtLeaf (Seq at e f) n b i
  pair_leaf left right = elim (cases_lt i (place_count e)) [
    | inl below ↦
        let size : length (leaves e) ≡ place_count e = length-leaves e in
        let same : get_or (leaves e ++ leaves f) i 0 ≡ get_or (leaves e) i 0 =
        get_or_append_left (leaves e) (leaves f) 0 i (omega arith) in
        let r = left below in
        let low : n + 1 ≤ get_or (leaves e) i 0 = r.low in
        let high : get_or (leaves e) i 0 < n + 1 + visit_count e = r.high in
        record {
          low = omega arith;
          high = omega arith;
          rounds = rw same (deeper (get_or (leaves e) i 0) n (n + 1 + visit_count e) [] _ _ _ low high
              (in_front b i (place_count e) _ _ _ below r.rounds));
        }
    | inr above ↦
        let size : length (leaves e) ≡ place_count e = length-leaves e in
        let same : get_or (leaves e ++ leaves f) i 0 ≡ get_or (leaves f) (i - place_count e) 0 =
        get_or-append_right (leaves e) (leaves f) (place_count e) i 0 size above in
        let r = right above in
        let low : n + 1 + visit_count e ≤ get_or (leaves f) (i - place_count e) 0 = r.low in
        let high : get_or (leaves f) (i - place_count e) 0 < n + 1 + visit_count e + visit_count f = r.high in
        let place : b + place_count e + (i - place_count e) ≡ b + i = omega arith in
        record {
          low = omega arith;
          high = omega arith;
          rounds = rw same (later (get_or (leaves f) (i - place_count e) 0) n (n + 1 + visit_count e) [] _ _ _
              (omega arith) low
              (in_rest (b + i) (b + place_count e) _ _ _ (omega arith)
              (ap (λ p. place_rounds f (b + place_count e) p) (sym place) ∙ r.rounds)));
        }
  ]

pub at_leaf : (e : Tree) (n b s i : ℕ) → numbered e n b s ≡ true → i < place_count e → AtLeaf e n b i
at_leaf (Empty at) n b s i g l = absurd (omega arith)
at_leaf (Terminal at p t) n b s i g l =
    let own : at.number ≡ n = eqb-true at.number n (and_parts (nat_eq at.number n) (nat_eq p b) g).0 in
    let first : i ≡ 0 = omega arith in
    let same : get_or (at.number ∷ []) i 0 ≡ n = subst (λ k. get_or (at.number ∷ []) k 0 ≡ n) (sym first) own in
    record { low = omega arith; high = omega arith; rounds = refl }
at_leaf (Action at a) n b s i g l = absurd (omega arith)
at_leaf (Seq at e f) n b s i g l =
    let c = pair_parts at e f n b s g in
    pair_leaf at e f n b s i l (λ m. at_leaf e (n + 1) b s i c.left m)
    (λ m. at_leaf f (n + 1 + visit_count e) (b + place_count e) (s + scope_count e) (i - place_count e) c.right
    (omega arith))
at_leaf (Choice at e f) n b s i g l =
    let c = pair_parts at e f n b s g in
    let r = pair_leaf at e f n b s i l (λ m. at_leaf e (n + 1) b s i c.left m)
    (λ m. at_leaf f (n + 1 + visit_count e) (b + place_count e) (s + scope_count e) (i - place_count e) c.right
    (omega arith)) in
    record { low = r.low; high = r.high; rounds = r.rounds }
at_leaf (Star at e) n b s i g l =
    let r = at_leaf e (n + 1) b s i (and_parts (nat_eq at.number n) (numbered e (n + 1) b s) g).1 l in
    let low : n + 1 ≤ get_or (leaves e) i 0 = r.low in
    let high : get_or (leaves e) i 0 < n + 1 + visit_count e = r.high in
    record { low = omega arith; high = omega arith; rounds = alone (get_or (leaves e) i 0) n [] _ _ low r.rounds }
at_leaf (Hold at t e) n b s i g l =
    let r = at_leaf e (n + 1) b s i (and_parts (nat_eq at.number n) (numbered e (n + 1) b s) g).1 l in
    let low : n + 1 ≤ get_or (leaves e) i 0 = r.low in
    let high : get_or (leaves e) i 0 < n + 1 + visit_count e = r.high in
    record { low = omega arith; high = omega arith; rounds = alone (get_or (leaves e) i 0) n [] _ _ low r.rounds }
at_leaf (Scope at t e x h) n b s i g l =
    let c = scope_parts at t e x h n b s g in
    let size_e : length (leaves e) ≡ place_count e = length-leaves e in
    let size_x : length (leaves x) ≡ place_count x = length-leaves x in
    elim (cases_lt i (place_count e)) [
      | inl below ↦
          let same : get_or (leaves e ++ (leaves x ++ leaves h)) i 0 ≡ get_or (leaves e) i 0 =
          get_or_append_left (leaves e) (leaves x ++ leaves h) 0 i (omega arith) in
          let r = at_leaf e (n + 1) b (1 + s) i c.body below in
          let low : n + 1 ≤ get_or (leaves e) i 0 = r.low in
          let high : get_or (leaves e) i 0 < n + 1 + visit_count e = r.high in
          record {
            low = omega arith;
            high = omega arith;
            rounds = rw same (deeper (get_or (leaves e) i 0) n (n + 1 + visit_count e) [] _ _ _ low high
                (in_front b i (place_count e) _ _ _ below (ap (λ rs. Body t ∷ rs) r.rounds)));
          }
      | inr above ↦
          let j : ℕ = i - place_count e in
          let rest : get_or (leaves e ++ (leaves x ++ leaves h)) i 0 ≡ get_or (leaves x ++ leaves h)
          (i - place_count e) 0 =
          get_or-append_right (leaves e) (leaves x ++ leaves h) (place_count e) i 0 size_e above in
          elim (cases_lt (i - place_count e) (place_count x)) [
            | inl below ↦
                let same : get_or (leaves x ++ leaves h) (i - place_count e) 0 ≡ get_or (leaves x)
                (i - place_count e) 0 =
                get_or_append_left (leaves x) (leaves h) 0 (i - place_count e) (omega arith) in
                let r = at_leaf x (n + 1 + visit_count e) (b + place_count e) (1 + s + scope_count e)
                (i - place_count e)
                c.trap below in
                let low : n + 1 + visit_count e ≤ get_or (leaves x) (i - place_count e) 0 = r.low in
                let high : get_or (leaves x) (i - place_count e) 0 < n + 1 + visit_count e + visit_count x = r.high in
                let place : b + place_count e + (i - place_count e) ≡ b + i = omega arith in
                record {
                  low = omega arith;
                  high = omega arith;
                  rounds = rw (rest, same)
                      (later (get_or (leaves x) (i - place_count e) 0) n (n + 1 + visit_count e) [] _ _ _
                      (omega arith) low
                      (in_rest (b + i) (b + place_count e) _ _ _ (omega arith)
                      (cond-true (nat_lt (b + i) (b + place_count e + place_count x)) _ _
                      (lt-ltb (b + i) (b + place_count e + place_count x) (omega arith))
                      ∙ ap (λ rs. Trap t ∷ rs) (ap (λ p. place_rounds x (b + place_count e) p) (sym place) ∙ r.rounds)
                      ∙ sym (cond-true (nat_lt (get_or (leaves x) (i - place_count e) 0)
                      (n + 1 + visit_count e + visit_count x)) _ _
                      (lt-ltb (get_or (leaves x) (i - place_count e) 0)
                      (n + 1 + visit_count e + visit_count x) high)))));
                }
            | inr beyond ↦
                let k : ℕ = i - place_count e - place_count x in
                let same : get_or (leaves x ++ leaves h) (i - place_count e) 0
                ≡ get_or (leaves h) (i - place_count e - place_count x) 0 =
                get_or-append_right (leaves x) (leaves h) (place_count x) (i - place_count e) 0 size_x beyond in
                let r = at_leaf h (n + 1 + visit_count e + visit_count x) (b + place_count e + place_count x)
                (1 + s + scope_count e + scope_count x) (i - place_count e - place_count x) c.after (omega arith) in
                let low : n + 1 + visit_count e + visit_count x ≤ get_or (leaves h)
                (i - place_count e - place_count x) 0 =
                r.low in
                let high : get_or (leaves h) (i - place_count e - place_count x) 0
                < n + 1 + visit_count e + visit_count x + visit_count h = r.high in
                let place : b + place_count e + place_count x + (i - place_count e - place_count x)
                ≡ b + i = omega arith in
                record {
                  low = omega arith;
                  high = omega arith;
                  rounds = rw (rest, same) (later (get_or (leaves h) (i - place_count e - place_count x) 0) n
                      (n + 1 + visit_count e) [] _ _ _ (omega arith) (omega arith)
                      (in_rest (b + i) (b + place_count e) _ _ _ (omega arith)
                      (in_rest (b + i) (b + place_count e + place_count x) _ _ _ (omega arith)
                      (ap (λ p. place_rounds h (b + place_count e + place_count x) p) (sym place) ∙ r.rounds
                      ∙ sym (cond-false (nat_lt (get_or (leaves h) (i - place_count e - place_count x) 0)
                      (n + 1 + visit_count e + visit_count x)) _ _
                      (le-ltb (get_or (leaves h) (i - place_count e - place_count x) 0)
                      (n + 1 + visit_count e + visit_count x) low))))));
                }
          ]
    ]
