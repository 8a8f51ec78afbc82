-- A tree is alive exactly where some place of it stands; an instance has at most one abort position.
use Rattle.std.proofs.Common.{◌≡◌, ℕ, ◌<◌, ◌≤◌, Bool, true, not, ◌&&◌, ◌||◌, ◌↔◌, List, refl, arith}
use Rattle.std.proofs.lemmas.Bool.{and_parts, and_from, false≢true, eq-eqb, or_left, or_right}
use Rattle.pbs_ast.specs.Trees.{Tree, Empty, Terminal, Action, Seq, Choice, Star, Hold, Scope}
use Rattle.pbs_derive.specs.Derivations.{first_after, IsAbort, covers, alive, stands, trips, some_after}
use Rattle.pbs_derive.proofs.Positions.{split_to, split_from, or_elim, after_from, first_to, first_from, first_of}
use Rattle.pbs_derive.proofs.Positions.{first_once}

abbrev pub SomeStands : Tree → List ℕ → ℕ → ℕ → Type 0
SomeStands e v i k = (p : ℕ) × (stands e v i k p ≡ true)

pub alive_to_stands : (e : Tree) (v : List ℕ) (i k : ℕ) → alive e v i k ≡ true → SomeStands e v i k
alive_to_stands (Empty spot) v i k h = absurd (false≢true h)
alive_to_stands (Action spot a) v i k h = absurd (false≢true h)
alive_to_stands (Terminal spot p t) v i k h = (p, and_from _ _ (eq-eqb p p refl) h)
alive_to_stands (Seq spot e f) v i k h =
    or_elim _ _ h
    (λ l. let s = alive_to_stands e v i k l in (s.0, or_left _ _ s.1))
    (λ r. let w = split_to i k (covers e v i) (λ m. alive f v m k) r in
    let s = alive_to_stands f v w.0 k w.4 in (
      s.0,
      or_right _ _ (split_from i k (covers e v i) (λ m. stands f v m k s.0) w.0 w.1 w.2 w.3 s.1),
    ))
alive_to_stands (Choice spot e f) v i k h =
    or_elim _ _ h
    (λ l. let s = alive_to_stands e v i k l in (s.0, or_left _ _ s.1))
    (λ r. let s = alive_to_stands f v i k r in (s.0, or_right _ _ s.1))
alive_to_stands (Star spot e) v i k h =
    let w = split_to i k (covers (Star spot e) v i) (λ m. alive e v m k) h in
    let s = alive_to_stands e v w.0 k w.4 in (
      s.0,
      split_from i k (covers (Star spot e) v i) (λ m. stands e v m k s.0) w.0 w.1 w.2 w.3 s.1,
    )
alive_to_stands (Hold spot t e) v i k h =
    let p = and_parts _ _ h in
    let s = alive_to_stands e v i k p.0 in (s.0, and_from _ _ s.1 p.1)
alive_to_stands (Scope spot n e x h) v i k c =
    or_elim _ _ c
    (λ b.
    let p = and_parts _ _ b in
    let s = alive_to_stands e v i k p.1 in
    let some_part = stands e v i k s.0 || (stands x v i k s.0 && alive e v i k) in (
      s.0,
      or_left (not (some_after i k (trips e x v i)) && some_part)
          (first_after i k (trips e x v i) (λ m. stands h v m k s.0))
          (and_from (not (some_after i k (trips e x v i))) some_part p.0
          (or_left (stands e v i k s.0) (stands x v i k s.0 && alive e v i k) s.1)),
    ))
    (λ a.
    let f = first_to i k (trips e x v i) (λ m. alive h v m k) a in
    let s = alive_to_stands h v f.0 k f.5 in
    let body = stands e v i k s.0 || (stands x v i k s.0 && alive e v i k) in
    let here = not (some_after i k (trips e x v i)) && body in (
      s.0,
      or_right here (first_after i k (trips e x v i) (λ m. stands h v m k s.0))
          (first_from i k (trips e x v i) (λ m. stands h v m k s.0) f.0 f.1 f.2 f.3 f.4 s.1),
    ))

pub stands_to_alive : (e : Tree) (v : List ℕ) (i k p : ℕ) → stands e v i k p ≡ true → alive e v i k ≡ true
stands_to_alive (Empty spot) v i k p h = h
stands_to_alive (Action spot a) v i k p h = h
stands_to_alive (Terminal spot q t) v i k p h = (and_parts _ _ h).1
stands_to_alive (Seq spot e f) v i k p h =
    or_elim _ _ h (λ l. or_left _ _ (stands_to_alive e v i k p l))
    (λ r. let w = split_to i k (covers e v i) (λ m. stands f v m k p) r in
    or_right _ _ (split_from i k (covers e v i) (λ m. alive f v m k) w.0 w.1 w.2 w.3 (stands_to_alive f v w.0 k p w.4)))
stands_to_alive (Choice spot e f) v i k p h =
    or_elim _ _ h (λ l. or_left _ _ (stands_to_alive e v i k p l)) (λ r. or_right _ _ (stands_to_alive f v i k p r))
stands_to_alive (Star spot e) v i k p h =
    let w = split_to i k (covers (Star spot e) v i) (λ m. stands e v m k p) h in
    split_from i k (covers (Star spot e) v i) (λ m. alive e v m k) w.0 w.1 w.2 w.3 (stands_to_alive e v w.0 k p w.4)
stands_to_alive (Hold spot t e) v i k p h =
    let q = and_parts _ _ h in and_from _ _ (stands_to_alive e v i k p q.0) q.1
stands_to_alive (Scope spot n e x h) v i k p c =
    or_elim _ _ c
    (λ b.
    let some_part = stands e v i k p || (stands x v i k p && alive e v i k) in
    let q = and_parts _ _ b in
    or_left _ _ (and_from _ _ q.0 (or_elim (stands e v i k p) (stands x v i k p && alive e v i k) q.1
    (stands_to_alive e v i k p) (λ t. (and_parts _ _ t).1))))
    (λ a.
    let f = first_to i k (trips e x v i) (λ m. stands h v m k p) a in
    or_right _ _ (first_from i k (trips e x v i) (λ m. alive h v m k) f.0 f.1 f.2 f.3 f.4
    (stands_to_alive h v f.0 k p f.5)))

pub alive_stands : (e : Tree) (v : List ℕ) (i k : ℕ) → (alive e v i k ≡ true) ↔ SomeStands e v i k
alive_stands e v i k = (alive_to_stands e v i k, λ s. stands_to_alive e v i k s.0 s.1)

pub one_abort : (e x : Tree) (v : List ℕ) (i m n : ℕ) → IsAbort e x v i m → IsAbort e x v i n → m ≡ n
one_abort e x v i m n a b =
    first_once i m n (trips e x v i) a.0 a.1 (λ q low high. a.2 q low (let lt : i < m = a.0 in omega arith))
    b.0 b.1 (λ q low high. b.2 q low (let lt : i < n = b.0 in omega arith))

pub abort_found : (e x : Tree) (v : List ℕ) (i k : ℕ) → (some_after i k (trips e x v i) ≡ true)
    ↔ ((m : ℕ) × (m ≤ k) × IsAbort e x v i m)
abort_found e x v i k = (
  λ h. let w = first_of i k (trips e x v i) h in
      (w.0, w.2, (w.1, w.3, λ n low high. w.4 n low (omega arith))),
  λ a. after_from i k (trips e x v i) a.0 a.2.0 a.1 a.2.1,
)

pub abort_first : (e x : Tree) (v : List ℕ) (i k : ℕ) (test : ℕ → Bool)
    → (first_after i k (trips e x v i) test ≡ true) ↔ ((m : ℕ) × (m ≤ k) × IsAbort e x v i m × (test m ≡ true))
abort_first e x v i k test = (
  λ h. let w = first_to i k (trips e x v i) test h in
      (w.0, w.2, (w.1, w.3, λ n low high. w.4 n low (omega arith)), w.5),
  λ a. let lt : i < a.0 = a.2.0 in
      first_from i k (trips e x v i) test a.0 a.2.0 a.1 a.2.1 (λ n low high. a.2.2 n low (omega arith)) a.3,
)
