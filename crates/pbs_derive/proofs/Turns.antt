-- Copies of a tree in turn, and what the shapes of bounded repetition cover.
use Rattle.std.proofs.Common.{◌≡◌, ℕ, zero, suc, ◌+◌, ◌-◌, ◌/◌, ◌<◌, ◌≤◌, ◌↔◌, Bool, true, false, nat_eq}
use Rattle.std.proofs.Common.{if◌then◌else◌, List, refl, sym, ◌∙◌, ap, subst, min, add-one, arith}
use Rattle.std.proofs.lemmas.Bool.{eqb-true, eq-eqb, or_left, or_right}
use Rattle.std.proofs.lemmas.Bool.Decides.{nat_tests}
use Rattle.pbs_ast.specs.Trees.{Tree}
use Rattle.pbs_ast.specs.Repeats.{Copies, Copy, Nothing, InTurn, Either, copies_to, exactly, at_most, repeated}
use Rattle.pbs_ast.specs.Repeats.{filled, blank}
use Rattle.pbs_derive.specs.Derivations.{covers}
use Rattle.pbs_derive.specs.Turns.{Leads, CoverInTurn}
use Rattle.pbs_derive.proofs.Positions.{or_elim, split_to, split_from}
use Rattle.pbs_derive.proofs.Stretches.{covers_order}
use Rattle.pbs_derive.proofs.Blanks.{covers_blank}

-- c copies of e lead from i to j: the first of them, and then the others
abbrev pub Turns : Tree → List ℕ → ℕ → ℕ → ℕ → Type 0
Turns e v zero i j = i ≡ j
Turns e v (suc c) i j = (m : ℕ) × (i ≤ m) × (covers e v i m ≡ true) × Turns e v c m j

turns_order : (e : Tree) (v : List ℕ) (c i j : ℕ) → Turns e v c i j → i ≤ j
turns_order e v zero i j w = let q : i ≡ j = w in omega arith
turns_order e v (suc c) i j w =
    let low : i ≤ w.0 = w.1 in let high : w.0 ≤ j = turns_order e v c w.0 j w.3 in omega arith

turns_then : (e : Tree) (v : List ℕ) (c d i m j : ℕ) → Turns e v c i m → Turns e v d m j → Turns e v (c + d) i j
turns_then e v zero d i m j w x =
    let P : ℕ → ℕ → Type 0 = λ n a. Turns e v n a j in
    let q : i ≡ m = w in
    let z : d ≡ 0 + d = omega arith in subst (λ n. P n i) z (subst (P d) (sym q) x)
turns_then e v (suc c) d i m j w x =
    let P : ℕ → Type 0 = λ n. Turns e v n i j in
    let z : suc (c + d) ≡ suc c + d = omega arith in
    subst P z (w.0, w.1, w.2, turns_then e v c d w.0 m j w.3 x)

turns_split : (e : Tree) (v : List ℕ) (c d i j : ℕ) → Turns e v (c + d) i j
    → (m : ℕ) × Turns e v c i m × Turns e v d m j
turns_split e v zero d i j w =
    let P : ℕ → Type 0 = λ n. Turns e v n i j in
    let z : 0 + d ≡ d = omega arith in (i, refl, subst P z w)
turns_split e v (suc c) d i j w =
    let P : ℕ → Type 0 = λ n. Turns e v n i j in
    let z : suc c + d ≡ suc (c + d) = omega arith in
    let x : Turns e v (suc (c + d)) i j = subst P z w in
    let s = turns_split e v c d x.0 j x.3 in (s.0, (x.0, x.1, x.2, s.1), s.2)

-- at least a copies and at most b lead from i to j
abbrev pub SomeTurns : Tree → List ℕ → ℕ → ℕ → ℕ → ℕ → Type 0
SomeTurns e v a b i j = (c : ℕ) × (a ≤ c) × (c ≤ b) × Turns e v c i j

-- the shape covers exactly the stretches through which so many copies lead
abbrev pub Stands : Tree → List ℕ → Copies → ℕ → ℕ → Type 0
Stands e v shape a b = (i j : ℕ) → (covers (filled shape e) v i j ≡ true) ↔ SomeTurns e v a b i j

copy_stands : (e : Tree) (v : List ℕ) → Stands e v Copy 1 1
copy_stands e v i j = (
  λ h. (1, omega arith, omega arith, (j, covers_order e v i j h, h, refl)),
  λ w.
      let P : ℕ → Type 0 = λ c. Turns e v c i j in
      let low : 1 ≤ w.0 = w.1 in let high : w.0 ≤ 1 = w.2 in
      let one : w.0 ≡ 1 = omega arith in
      let x : Turns e v 1 i j = subst P one w.3 in ap (covers e v i) (sym x.3) ∙ x.2,
)

nothing_stands : (e : Tree) (v : List ℕ) → Stands e v Nothing 0 0
nothing_stands e v i j = (
  λ h. (0, omega arith, omega arith, eqb-true i j h),
  λ w.
      let P : ℕ → Type 0 = λ c. Turns e v c i j in
      let high : w.0 ≤ 0 = w.2 in
      let none : w.0 ≡ 0 = omega arith in eq-eqb i j (subst P none w.3),
)

pair_stands : (e : Tree) (v : List ℕ) (s t : Copies) (a b c d : ℕ) → a ≤ b → c ≤ d → Stands e v s a b → Stands e v t c d
    → Stands e v (InTurn s t) (a + c) (b + d)
pair_stands e v s t a b c d left right S T i j = (
  λ h.
      let w = split_to i j (covers (filled s e) v i) (λ m. covers (filled t e) v m j) h in
      let x : SomeTurns e v a b i w.0 = (S i w.0).0 w.3 in let y : SomeTurns e v c d w.0 j = (T w.0 j).0 w.4 in
      (x.0 + y.0, omega (arith, x.1, y.1), omega (arith, x.2, y.2), turns_then e v x.0 y.0 i w.0 j x.3 y.3),
  λ w.
      let P : ℕ → Type 0 = λ n. Turns e v n i j in
      let low : a + c ≤ w.0 = w.1 in let high : w.0 ≤ b + d = w.2 in
      let p = min b (w.0 - c) in let q = w.0 - p in
      let sum : w.0 ≡ p + q = omega arith in
      let x = turns_split e v p q i j (subst P sum w.3) in
      split_from i j (covers (filled s e) v i) (λ m. covers (filled t e) v m j) x.0 (turns_order e v p i x.0 x.1)
      (turns_order e v q x.0 j x.2) ((S i x.0).1 (p, omega arith, omega arith, x.1))
      ((T x.0 j).1 (q, omega arith, omega arith, x.2)),
)

choice_stands : (e : Tree) (v : List ℕ) (s : Copies) (k : ℕ) → Stands e v s 1 k → Stands e v (Either s Nothing) 0 k
choice_stands e v s k S i j = (
  λ h. or_elim _ _ h
      (λ some. let w : SomeTurns e v 1 k i j = (S i j).0 some in (w.0, omega arith, w.2, w.3))
      (λ none. (0, omega arith, omega arith, eqb-true i j none)),
  back,
)
  where
    back : SomeTurns e v 0 k i j → covers (filled (Either s Nothing) e) v i j ≡ true
    back (zero, low, high, w) = or_right _ _ (eq-eqb i j w)
    back (suc c, low, high, w) = or_left _ _ ((S i j).1 (suc c, omega arith, high, w))

abbrev in_halves : ℕ → ℕ → Copies
in_halves room k = let half = (k + 1) / 2 in InTurn (copies_to room half) (copies_to room (k - half))

exactly_by : (e : Tree) (v : List ℕ) (room k : ℕ) (b : Bool) → nat_eq k 1 ≡ b → 1 ≤ k → k ≤ suc room
    → ((n : ℕ) → 1 ≤ n → n ≤ room → Stands e v (copies_to room n) n n)
    → Stands e v (if b then Copy else in_halves room k) k k
exactly_by e v room k true one some fits shorter =
    let P : ℕ → Type 0 = λ n. Stands e v Copy n n in subst P (sym (eqb-true k 1 one)) (copy_stands e v)
exactly_by e v room k false more some fits shorter =
    let many : k ≡ 1 → ⊥ = grind (arith, nat_tests) in
    let half = (k + 1) / 2 in
    let sum : half + (k - half) ≡ k = omega arith in
    let P : ℕ → Type 0 = λ n. Stands e v (in_halves room k) n n in
    subst P sum (pair_stands e v (copies_to room half) (copies_to room (k - half)) half half (k - half) (k - half)
    (omega arith) (omega arith) (shorter half (omega arith) (omega arith))
    (shorter (k - half) (omega arith) (omega arith)))

exactly_stands : (e : Tree) (v : List ℕ) (room k : ℕ) → 1 ≤ k → k ≤ room → Stands e v (copies_to room k) k k
exactly_stands e v zero k some fits = absurd (omega arith)
exactly_stands e v (suc room) k some fits =
    exactly_by e v room k (nat_eq k 1) refl some fits (exactly_stands e v room)

at_most_stands : (e : Tree) (v : List ℕ) (k : ℕ) → Stands e v (at_most k) 0 k
at_most_stands e v zero = nothing_stands e v
at_most_stands e v (suc zero) = choice_stands e v Copy 1 (copy_stands e v)
at_most_stands e v (suc (suc k)) =
    let P : ℕ → ℕ → Type 0 = Stands e v (InTurn Copy (at_most (suc k))) in
    let low : 1 + 0 ≡ 1 = omega arith in let high : 1 + suc k ≡ suc (suc k) = omega arith in
    let some : P (1 + 0) (1 + suc k) = pair_stands e v Copy (at_most (suc k)) 1 1 0 (suc k) (omega arith)
    (omega arith) (copy_stands e v) (at_most_stands e v (suc k)) in
    choice_stands e v (InTurn Copy (at_most (suc k))) (suc (suc k)) (subst (λ n. P 1 n) high
    (subst (λ n. P n (1 + suc k)) low some))

pub repeated_stands : (e : Tree) (v : List ℕ) (m n : ℕ) → m ≤ n → 1 ≤ n → Stands e v (repeated m n) m n
repeated_stands e v m n fits some = by_tests (nat_eq m n) (nat_eq m 0) refl refl
  where
    by_tests : (b c : Bool) → nat_eq m n ≡ b → nat_eq m 0 ≡ c → Stands e v
        (if b then exactly m else if c then at_most n else InTurn (exactly m) (at_most (n - m))) m n
    by_tests true c same none =
        let P : ℕ → Type 0 = λ a. Stands e v (exactly m) m a in
        let q : m ≡ n = eqb-true m n same in
        subst P q (exactly_stands e v m m (omega arith) (omega arith))
    by_tests false true differ none =
        let P : ℕ → Type 0 = λ a. Stands e v (at_most n) a n in
        subst P (sym (eqb-true m 0 none)) (at_most_stands e v n)
    by_tests false false differ more =
        let P : ℕ → ℕ → Type 0 = Stands e v (InTurn (exactly m) (at_most (n - m))) in
        let some : m ≡ 0 → ⊥ = grind (arith, nat_tests) in
        let low : m + 0 ≡ m = omega arith in let high : m + (n - m) ≡ n = omega arith in
        let both : P (m + 0) (m + (n - m)) = pair_stands e v (exactly m) (at_most (n - m)) m m 0 (n - m) (omega arith)
        (omega arith) (exactly_stands e v m m (omega arith) (omega arith)) (at_most_stands e v (n - m)) in
        subst (λ b. P m b) high (subst (λ a. P a (m + (n - m))) low both)

-- turns as positions, and back
after_first : ℕ → (ℕ → ℕ) → ℕ → ℕ
after_first i t zero = i
after_first i t (suc s) = t s

leads_after : (e : Tree) (v : List ℕ) (c i m j : ℕ) (t : ℕ → ℕ) → i ≤ m → covers e v i m ≡ true → Leads e v c t m j
    → Leads e v (suc c) (after_first i t) i j
unfolding after_first
leads_after e v c i m j t low here l = record {
  first = refl;
  last = l.last;
  rising = rise;
  covered = cover;
}
  where
    rise : (s : ℕ) → s < suc c → after_first i t s ≤ after_first i t (s + 1)
    rise zero lt = let q : t 0 ≡ m = l.first in omega arith
    rise (suc s) lt =
        let z : suc s + 1 ≡ suc (s + 1) = omega arith in rw z (l.rising s (omega arith))

    cover : (s : ℕ) → s < suc c → covers e v (after_first i t s) (after_first i t (s + 1)) ≡ true
    cover zero lt = ap (covers e v i) l.first ∙ here
    cover (suc s) lt =
        let z : suc s + 1 ≡ suc (s + 1) = omega arith in rw z (l.covered s (omega arith))

turns_lead : (e : Tree) (v : List ℕ) (c i j : ℕ) → Turns e v c i j → CoverInTurn e v c i j
turns_lead e v zero i j w = (
  λ s. i,
  record {
    first = refl;
    last = w;
    rising = λ s lt. absurd (omega arith);
    covered = λ s lt. absurd (omega arith);
  },
)
turns_lead e v (suc c) i j w =
    let l = turns_lead e v c w.0 j w.3 in
    (after_first i l.0, leads_after e v c i w.0 j l.0 w.1 w.2 l.1)

lead_turns : (e : Tree) (v : List ℕ) (c i j : ℕ) → CoverInTurn e v c i j → Turns e v c i j
lead_turns e v zero i j l = sym l.1.first ∙ l.1.last
lead_turns e v (suc c) i j (t, l) =
    let low : t 0 ≤ t 1 = l.rising 0 (omega arith) in
    let first : t 0 ≡ i = l.first in
    let here : covers e v (t 0) (t 1) ≡ true = l.covered 0 (omega arith) in
    let rest : Leads e v c (λ s. t (s + 1)) (t 1) j = record {
      first = refl;
      last = ap t (add-one c) ∙ l.last;
      rising = λ s lt. l.rising (s + 1) (omega arith);
      covered = λ s lt. l.covered (s + 1) (omega arith);
    } in
    (t 1, omega arith, ap (λ a. covers e v a (t 1)) (sym first) ∙ here, lead_turns e v c (t 1) j (λ s. t (s + 1), rest))

-- a tree that is blank as that shape
pub repeated_turns : (tree e : Tree) (v : List ℕ) (m n i j : ℕ) → m ≤ n → 1 ≤ n
    → blank tree ≡ filled (repeated m n) (blank e)
    → (covers tree v i j ≡ true) ↔ ((c : ℕ) × (m ≤ c) × (c ≤ n) × CoverInTurn e v c i j)
repeated_turns tree e v m n i j fits some is =
    let law = repeated_stands (blank e) v m n fits some i j in
    let same : covers tree v i j ≡ covers (filled (repeated m n) (blank e)) v i j =
    sym (covers_blank tree v i j) ∙ ap (λ t. covers t v i j) is in (
      λ h. let w = law.0 (sym same ∙ h) in
          (w.0, w.1, w.2, turns_lead e v w.0 i j (turns_of (blank e) e v (covers_blank e v) w.0 i j w.3)),
      λ w. same ∙ law.1 (
        w.0,
        w.1,
        w.2,
        turns_of e (blank e) v (λ a b. sym (covers_blank e v a b)) w.0 i j
            (lead_turns e v w.0 i j w.3),
      ),
    )
  where
    turns_of : (f g : Tree) (v : List ℕ) → ((i j : ℕ) → covers f v i j ≡ covers g v i j) → (c i j : ℕ)
        → Turns f v c i j → Turns g v c i j
    turns_of f g v is zero i j w = w
    turns_of f g v is (suc c) i j w = (w.0, w.1, sym (is i w.0) ∙ w.2, turns_of f g v is c w.0 j w.3)
