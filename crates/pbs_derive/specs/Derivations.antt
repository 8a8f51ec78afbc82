-- Derivations: what a tree covers, when it is alive, which places stand, which actions fire and which scopes are live.
-- v is a list of vectors. Position k is after its first k vectors, and the stretch [i,j) has its vectors i to j-1.
use Rattle.std.specs.Prelude.{◌≡◌, ℕ, zero, suc, ◌+◌, ◌-◌, ◌<◌, Bool, true, false, not, ◌&&◌, ◌||◌, nat_eq, nat_lt}
use Rattle.std.specs.Prelude.{nat_le, List, length, slice_index}
use Rattle.bool_terms.specs.Terms.{Term, holds}
use Rattle.pbs_ast.specs.Trees.{Tree, Empty, Terminal, Action, Seq, Choice, Star, Hold, Scope}

-- some number below n passes the test
abbrev pub some_below : ℕ → (ℕ → Bool) → Bool
some_below zero test = false
some_below (suc n) test = test n || some_below n test

-- some m with i ≤ m ≤ j passes the test
abbrev pub some_within : ℕ → ℕ → (ℕ → Bool) → Bool
some_within i j test = some_below (j + 1) (λ m. nat_le i m && test m)

-- some m with i < m ≤ j passes the test
abbrev pub some_after : ℕ → ℕ → (ℕ → Bool) → Bool
some_after i j test = some_below (j + 1) (λ m. nat_lt i m && test m)

-- there is a first m with i < m ≤ j that passes the test, and it passes the second test too
abbrev pub first_after : ℕ → ℕ → (ℕ → Bool) → (ℕ → Bool) → Bool
first_after i j test then = some_after i j (λ m. test m && not (some_below m (λ n. nat_lt i n && test n)) && then m)

-- the term is true in each vector of [i,j)
abbrev pub all_hold : Term → List ℕ → ℕ → ℕ → Bool
all_hold t v i j = not (some_below j (λ m. nat_le i m && not (holds t (slice_index v m))))

-- stretches that follow one another lead from i to j, at most n of them and none empty
abbrev pub repeats : (ℕ → ℕ → Bool) → ℕ → ℕ → ℕ → Bool
repeats once zero i j = nat_eq i j
repeats once (suc n) i j = nat_eq i j || some_after i j (λ m. once i m && repeats once n m j)

abbrev mutual
  -- e covers [i,j)
  pub covers : Tree → List ℕ → ℕ → ℕ → Bool
  covers (Empty spot) v i j = nat_eq i j
  covers (Action spot a) v i j = nat_eq i j
  covers (Terminal spot p t) v i j = nat_eq j (i + 1) && holds t (slice_index v i)
  covers (Seq spot e f) v i j = some_within i j (λ m. covers e v i m && covers f v m j)
  covers (Choice spot e f) v i j = covers e v i j || covers f v i j
  covers (Star spot e) v i j = repeats (covers e v) (j - i) i j
  covers (Hold spot t e) v i j = covers e v i j && all_hold t v i j
  covers (Scope spot s e x h) v i j =
      (not (some_after i j (λ m. covers x v i m && alive e v i (m - 1))) && covers e v i j)
      || first_after i j (λ m. covers x v i m && alive e v i (m - 1)) (λ m. covers h v m j)

  -- a derivation of e from i has consumed the vectors from i to k and stands before a terminal; a trap doesn't count
  pub alive : Tree → List ℕ → ℕ → ℕ → Bool
  alive (Empty spot) v i k = false
  alive (Action spot a) v i k = false
  alive (Terminal spot p t) v i k = nat_eq k i
  alive (Seq spot e f) v i k = alive e v i k || some_within i k (λ m. covers e v i m && alive f v m k)
  alive (Choice spot e f) v i k = alive e v i k || alive f v i k
  alive (Star spot e) v i k = some_within i k (λ m. repeats (covers e v) (m - i) i m && alive e v m k)
  alive (Hold spot t e) v i k = alive e v i k && all_hold t v i k
  alive (Scope spot s e x h) v i k =
      (not (some_after i k (λ m. covers x v i m && alive e v i (m - 1))) && alive e v i k)
      || first_after i k (λ m. covers x v i m && alive e v i (m - 1)) (λ m. alive h v m k)

-- trap x covers [i,m) and body e is alive at m-1: the first such m after i is the abort position from i
abbrev pub trips : Tree → Tree → List ℕ → ℕ → ℕ → Bool
trips e x v i m = covers x v i m && alive e v i (m - 1)

-- m is the abort position of the instance that begins at i of a scope with body e and trap x
abbrev pub IsAbort : Tree → Tree → List ℕ → ℕ → ℕ → Type 0
IsAbort e x v i m = (i < m) × (trips e x v i m ≡ true) × ((n : ℕ) → i < n → n < m → trips e x v i n ≡ true → ⊥)

-- place p stands at k in a derivation of e from i; a trap's place stands while the body is alive
abbrev pub stands : Tree → List ℕ → ℕ → ℕ → ℕ → Bool
stands (Empty spot) v i k p = false
stands (Action spot a) v i k p = false
stands (Terminal spot q t) v i k p = nat_eq p q && nat_eq k i
stands (Seq spot e f) v i k p = stands e v i k p || some_within i k (λ m. covers e v i m && stands f v m k p)
stands (Choice spot e f) v i k p = stands e v i k p || stands f v i k p
stands (Star spot e) v i k p = some_within i k (λ m. covers (Star spot e) v i m && stands e v m k p)
stands (Hold spot t e) v i k p = stands e v i k p && all_hold t v i k
stands (Scope spot s e x h) v i k p =
    (not (some_after i k (trips e x v i)) && (stands e v i k p || (stands x v i k p && alive e v i k)))
    || first_after i k (trips e x v i) (λ m. stands h v m k p)

-- action a fires at k in a derivation of e from i
abbrev pub fires : Tree → List ℕ → ℕ → ℕ → ℕ → Bool
fires (Empty spot) v i k a = false
fires (Action spot b) v i k a = nat_eq a b && nat_eq k i
fires (Terminal spot q t) v i k a = false
fires (Seq spot e f) v i k a = fires e v i k a || some_within i k (λ m. covers e v i m && fires f v m k a)
fires (Choice spot e f) v i k a = fires e v i k a || fires f v i k a
fires (Star spot e) v i k a = some_within i k (λ m. covers (Star spot e) v i m && fires e v m k a)
fires (Hold spot t e) v i k a = fires e v i k a && all_hold t v i k
fires (Scope spot s e x h) v i k a =
    (not (some_after i k (trips e x v i)) && fires e v i k a)
    || first_after i k (trips e x v i) (λ m. fires h v m k a)

-- the instance of scope s that begins at j is live at k in a derivation of e from i: its body is alive and not aborted
abbrev pub live : Tree → List ℕ → ℕ → ℕ → ℕ → ℕ → Bool
live (Empty spot) v i k s j = false
live (Action spot a) v i k s j = false
live (Terminal spot q t) v i k s j = false
live (Seq spot e f) v i k s j = live e v i k s j || some_within i k (λ m. covers e v i m && live f v m k s j)
live (Choice spot e f) v i k s j = live e v i k s j || live f v i k s j
live (Star spot e) v i k s j = some_within i k (λ m. covers (Star spot e) v i m && live e v m k s j)
live (Hold spot t e) v i k s j = live e v i k s j && all_hold t v i k
live (Scope spot n e x h) v i k s j =
    (not (some_after i k (trips e x v i)) && (live e v i k s j || ((nat_eq s n && nat_eq i j) && alive e v i k)))
    || first_after i k (trips e x v i) (λ m. live h v m k s j)

-- at no position below k is a scope of main live for an earlier begin and begun again
abbrev pub NoOverlapBelow : Tree → List ℕ → ℕ → Type 0
NoOverlapBelow main v k = (t : ℕ) → t < k → (s j : ℕ) → j < t → live main v 0 t s j ≡ true
    → live main v 0 t s t ≡ true → ⊥

-- nor at any position of v
abbrev pub NoOverlap : Tree → List ℕ → Type 0
NoOverlap main v = NoOverlapBelow main v (length v + 1)

-- the first n vectors of v and w agree
abbrev pub SameTo : ℕ → List ℕ → List ℕ → Type 0
SameTo n v w = (m : ℕ) → m < n → slice_index v m ≡ slice_index w m
